-- What is read at a place, once the numbers that no enum has are judged; and a GUID's sixteen bytes in text order are the two numbers that the layer below
-- reads and writes, and back.
-- Assumes nothing.
use mathlib.Core.Path.{◌≡◌, refl, sym, ap, ◌∙◌}
use mathlib.Core.Bool.{Bool, true, false}
use mathlib.Core.List.{List, ◌++◌}
use Prim.Native.Nat.{ℕ, ◌+◌}
use native.Mathlib.Omega.{arith}
use lib.Dec.{ltb}
use lib.ListN.{length, take, drop, length-drop, take-append-drop}
use lib.Seq.{length-take-le, take_all}
use borrow.Author.Tests.{ltb-true, ltb-false}
use Rattle.lists.specs.Pick.{pick}
use Rattle.format.specs.Answer.{Refusal, gives, refuses, Read, stops, map_read, read_at}
use Rattle.format.specs.Number.{high_nat, high_bytes, read_bytes, read_low, read_high}
use Rattle.format.specs.Guid.{guid_order}
use Rattle.format.proofs.Number.{Bytes, high_forth}
use Rattle.format.proofs.Plain.{bytes_take, bytes_drop}
use Rattle.wire.specs.declared.Guid.{Guid}
use Rattle.wire.specs.Told.{known, widths, guid_bytes, guid_wire, read_guid}
use Rattle.wire.proofs.Known.{known-gives, known-refused}
use Rattle.wire.proofs.Reading.{count_there, count-missing, guid_there, guid-missing}
use Rattle.wire.proofs.GuidBack.{guid_read_back}
use Rattle.board_answer.specs.Told.{flag_given}
use Rattle.board_answer.proofs.Laws.{flag_is}
use Rattle.board_number.specs.Plain.{number_at, guid_at}

-- ---- a number: its width, then the order

module _ (width high : ℕ) (s : List ℕ) (at : ℕ) where
  pub no_width : (e : Refusal) → refuses e ≡ known widths width → stops e ≡ number_at width high s at
  no_width e h = let k = known-refused widths width e h in rw (k.0, k.1)

  pub number_is : (m : ℕ) (b : Bool) (read : Read ℕ) → gives m ≡ known widths width → gives b ≡ flag_given high →
      read ≡ read_at (pick b (read_high m) (read_low m)) s at → read ≡ number_at width high s at
  number_is m b read w f r =
      let k = known-gives widths m width w in
      let j = flag_is high b f in
      rw (k.0, j.0, ← j.1, ← k.1) r

-- ---- a GUID

-- read: the two numbers' bytes are the sixteen bytes in text order
pub guid_is : (s : List ℕ) (at : ℕ) → Bytes s → map_read guid_bytes (read_at read_guid s at) ≡ guid_at s at
unfolding read_bytes
guid_is s at u = go (ltb (length s) (at + 16)) refl
  where
    go : (b : Bool) → ltb (length s) (at + 16) ≡ b → map_read guid_bytes (read_at read_guid s at) ≡ guid_at s at
    go true t =
        let h = ltb-true (length s) (at + 16) t in
        ap (map_read guid_bytes) (sym (guid-missing s at h)) ∙ ap (map_read guid_order) (count-missing s at (read_bytes 16) 16 (take 16) (λ l. refl) h)
    go false t =
        let h = ltb-false (length s) (at + 16) t in
        let l = length-drop at s in
        let back = guid_read_back (take 16 (drop at s)) (length-take-le 16 (drop at s) (omega arith)) (bytes_take 16 (drop at s) (bytes_drop at s u)) in
        ap (map_read guid_bytes) (sym (guid_there s at h)) ∙ rw back (ap (map_read guid_order) (count_there s at (read_bytes 16) 16 (take 16) (λ l. refl) h))

-- written: the numbers of the first eight bytes and of the last eight
eight : (s : List ℕ) → length s ≡ 8 → Bytes s → high_bytes 8 (high_nat s) ≡ s
eight s z b = ap (λ (w : ℕ). high_bytes w (high_nat s)) (sym z) ∙ high_forth s b

pub wire_is : (s : List ℕ) (g : Guid) → length s ≡ 16 → Bytes s → g.high ≡ high_nat (take 8 (drop 0 s)) → g.low ≡ high_nat (take 8 (drop 8 s)) →
    guid_wire g ≡ guid_order s
unfolding guid_wire
wire_is s g z u h l =
    let d = length-drop 8 s in
    let e : take 8 (drop 8 s) ≡ drop 8 s = take_all 8 (drop 8 s) (omega arith) in
    let first : high_bytes 8 g.high ≡ take 8 s = rw h (eight (take 8 s) (length-take-le 8 s (omega arith)) (bytes_take 8 s u)) in
    let last : high_bytes 8 g.low ≡ drop 8 s = rw (l, e) (eight (drop 8 s) (omega arith) (bytes_drop 8 s u)) in
    ap guid_order
    (ap (λ (x : List ℕ). x ++ high_bytes 8 g.low) first ∙ (ap (λ (x : List ℕ). take 8 s ++ x) last ∙ take-append-drop 8 s))
