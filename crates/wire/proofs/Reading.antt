-- What the readers at a place answer: the byte or the number where it is there, refusal 1 where it is not.
-- Assumes nothing.
use mathlib.Core.Path.{◌≡◌, refl, ap, sym, ◌∙◌}
use mathlib.Core.List.{List, []}
use mathlib.Core.Bool.{Bool, true, false}
use Prim.Native.Nat.{ℕ, ◌+◌, ◌<◌, ◌≤◌}
use native.Mathlib.Omega.{arith}
use lib.ListN.{length, get_or, take, drop, length-drop, drop_of_length-le}
use lib.Seq.{drop-cons}
use lib.Dec.{ltb, lit≤}
use borrow.Author.Tests.{lt-ltb, le-ltb, ltb-true, ltb-false}
use Rattle.format.specs.Answer.{missing, Read, took, stops, stop_if, map_read, read_at}
use Rattle.format.specs.Number.{read_byte, read_low, read_high, read_bytes, low_nat, high_nat}
use Rattle.wire.specs.declared.Width.{Width}
use Rattle.wire.specs.declared.Width.TheVariants as Widths
use Rattle.wire.specs.Told.{width_of, guid_text, read_guid}
use Rattle.format.proofs.Place.{at_behind, at_took, at_stops}

module _ (s : List ℕ) (at : ℕ) where
  pub byte_there : at < length s → took (get_or s at 0) (at + 1) ≡ read_at read_byte s at
  unfolding read_byte
  byte_there h =
      let e : read_byte (drop at s) ≡ took (get_or s at 0) 1 = ap read_byte (drop-cons s at 0 h) in
      sym (at_took read_byte s at (get_or s at 0) 1 (omega arith) e)

  pub byte-missing : length s ≤ at → stops missing ≡ read_at read_byte s at
  unfolding read_byte
  byte-missing h = go (ltb (length s) at) refl
    where
      go : (b : Bool) → ltb (length s) at ≡ b → stops missing ≡ read_at read_byte s at
      go true t = sym (at_behind read_byte s at (ltb-true (length s) at t))
      go false t = sym (at_stops read_byte s at missing (ltb-false (length s) at t) (none (drop_of_length-le s h)))
        where
          none : drop at s ≡ [] → read_byte (drop at s) ≡ stops missing
          none e = ap read_byte e

  -- a reader of a fixed count
  module _ {A : Type 0} (reader : List ℕ → Read A) (w : ℕ) (value : List ℕ → A)
      (is : (l : List ℕ) → reader l ≡ stop_if (ltb (length l) w) missing (took (value l) w)) where
    pub count_there : at + w ≤ length s → took (value (drop at s)) (at + w) ≡ read_at reader s at
    count_there h =
        let l = length-drop at s in
        let e : ltb (length (drop at s)) w ≡ false = le-ltb (length (drop at s)) w (omega arith) in
        sym (at_took reader s at (value (drop at s)) w (omega arith) (is (drop at s) ∙ ap (λ (b : Bool). stop_if b missing (took (value (drop at s)) w)) e))

    pub count-missing : length s < at + w → stops missing ≡ read_at reader s at
    count-missing h = go (ltb (length s) at) refl
      where
        go : (b : Bool) → ltb (length s) at ≡ b → stops missing ≡ read_at reader s at
        go true t = sym (at_behind reader s at (ltb-true (length s) at t))
        go false t =
            let l = length-drop at s in
            let i = ltb-false (length s) at t in
            let e : ltb (length (drop at s)) w ≡ true = lt-ltb (length (drop at s)) w (omega arith) in
            sym (at_stops reader s at missing i (is (drop at s) ∙ ap (λ (b : Bool). stop_if b missing (took (value (drop at s)) w)) e))

-- the readers of a fixed count
low_is : (w : ℕ) (l : List ℕ) → read_low w l ≡ stop_if (ltb (length l) w) missing (took (low_nat (take w l)) w)
unfolding read_low
low_is w l = refl

high_is : (w : ℕ) (l : List ℕ) → read_high w l ≡ stop_if (ltb (length l) w) missing (took (high_nat (take w l)) w)
unfolding read_high
high_is w l = refl

guid_is : (l : List ℕ) → read_guid l ≡ stop_if (ltb (length l) 16) missing (took (guid_text (take 16 l)) 16)
unfolding read_guid read_bytes
guid_is l = go (ltb (length l) 16)
  where
    go : (b : Bool) → map_read guid_text (stop_if b missing (took (take 16 l) 16)) ≡ stop_if b missing (took (guid_text (take 16 l)) 16)
    go true = refl
    go false = refl

module _ (s : List ℕ) (at w : ℕ) where
  pub low_there : at + w ≤ length s → took (low_nat (take w (drop at s))) (at + w) ≡ read_at (read_low w) s at
  low_there = count_there s at (read_low w) w (λ l. low_nat (take w l)) (low_is w)

  pub low-missing : length s < at + w → stops missing ≡ read_at (read_low w) s at
  low-missing = count-missing s at (read_low w) w (λ l. low_nat (take w l)) (low_is w)

  pub high_there : at + w ≤ length s → took (high_nat (take w (drop at s))) (at + w) ≡ read_at (read_high w) s at
  high_there = count_there s at (read_high w) w (λ l. high_nat (take w l)) (high_is w)

  pub high-missing : length s < at + w → stops missing ≡ read_at (read_high w) s at
  high-missing = count-missing s at (read_high w) w (λ l. high_nat (take w l)) (high_is w)

module _ (s : List ℕ) (at : ℕ) where
  pub guid_there : at + 16 ≤ length s → took (guid_text (take 16 (drop at s))) (at + 16) ≡ read_at read_guid s at
  guid_there = count_there s at read_guid 16 (λ l. guid_text (take 16 l)) guid_is

  pub guid-missing : length s < at + 16 → stops missing ≡ read_at read_guid s at
  guid-missing = count-missing s at read_guid 16 (λ l. guid_text (take 16 l)) guid_is

-- every width is at most eight bytes
pub width-le : (w : Width) → width_of w ≤ 8
width-le Widths.One = lit≤ tt
width-le Widths.Two = lit≤ tt
width-le Widths.Four = lit≤ tt
width-le Widths.Eight = lit≤ tt
