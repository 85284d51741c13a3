-- One character of UTF-8 at a place, byte by byte: each byte stands in the range that table 3-7 has for it, or the text is none.
-- Assumes nothing.
use mathlib.Core.Path.{◌≡◌, refl, ap, sym, ◌∙◌}
use mathlib.Core.List.{List, [], ◌∷◌}
use mathlib.Core.Bool.{true, false}
use Prim.Native.Nat.{ℕ, suc, ◌+◌, ◌*◌, ◌-◌, ◌<◌, ◌≤◌}
use native.Mathlib.Omega.{arith}
use native.Mathlib.Numerals.{add-one}
use lib.ListN.{length, get_or, drop, drop_of_length-le}
use lib.Seq.{drop-cons}
use Rattle.std.specs.Prelude.{Option, Some, None}
use Rattle.format.specs.Answer.{took, stops, not_text}
use Rattle.format.specs.Text.{between, well_formed, second8, tail8, char8}
use Rattle.format.specs.Text as T
use Rattle.format.proofs.Answer.{no_truth}
use Rattle.format.proofs.Characters.{less, in_between}
use Rattle.format.proofs.Utf8.{first_ascii}
use Rattle.text_char.specs.Told.{stands_in}
use Rattle.text_lead.specs.Told.{Led, lead_in, lead_told, row_told}
use Rattle.text_lead.specs.declared.Row.{Row}
use Rattle.text_lead.proofs.Rows.{led, lead_row, lead_none}

module _ (s : List ℕ) (at : ℕ) where
  -- the byte at a place, and what stands behind it
  pub drop_next : at < length s → drop at s ≡ get_or s at 0 ∷ drop (at + 1) s
  drop_next h = rw (add-one at) (drop-cons s at 0 h)

  module _ (low high : ℕ) where
    pub stands-end : length s ≤ at → false ≡ stands_in low high (drop at s)
    stands-end h = rw (drop_of_length-le s h)

    pub stands_is : at < length s → between low high (get_or s at 0) ≡ stands_in low high (drop at s)
    stands_is h = rw (drop_next h)

    pub stands_true : stands_in low high (drop at s) ≡ true → (at < length s) × (low ≤ get_or s at 0) × (get_or s at 0 ≤ high)
    stands_true e =
        less at (length s) (λ h. let i = in_between low high (get_or s at 0) (stands_is h ∙ e) in (h, i.0, i.1))
        (λ h. no_truth (stands-end h ∙ e))

  -- the second byte, and one that follows it
  module _ (a : ℕ) (r : T.Row) where
    pub second_not : stands_in r.low r.high (drop at s) ≡ false → second8 r a (drop at s) ≡ stops not_text
    second_not e = go (drop at s) e
      where
        go : (t : List ℕ) → stands_in r.low r.high t ≡ false → second8 r a t ≡ stops not_text
        go [] e = refl
        go (b ∷ t) e = rw e

    pub second_is : stands_in r.low r.high (drop at s) ≡ true →
        second8 r a (drop at s) ≡ tail8 r.more ((a - r.marker) * 64 + (get_or s at 0 - 0x80)) 2 (drop (at + 1) s)
    second_is e =
        let h = stands_true r.low r.high e in
        let n = drop_next h.0 in
        let b : between r.low r.high (get_or s at 0) ≡ true = stands_is r.low r.high h.0 ∙ e in
        ap (second8 r a) n ∙ rw b

  module _ (m n k : ℕ) where
    pub tail_not : stands_in 0x80 0xBF (drop at s) ≡ false → tail8 (suc m) n k (drop at s) ≡ stops not_text
    tail_not e = go (drop at s) e
      where
        go : (t : List ℕ) → stands_in 0x80 0xBF t ≡ false → tail8 (suc m) n k t ≡ stops not_text
        go [] e = refl
        go (b ∷ t) e = rw e

    pub tail_is : stands_in 0x80 0xBF (drop at s) ≡ true → tail8 (suc m) n k (drop at s) ≡ tail8 m (n * 64 + (get_or s at 0 - 0x80)) (suc k) (drop (at + 1) s)
    tail_is e =
        let h = stands_true 0x80 0xBF e in
        let b : between 0x80 0xBF (get_or s at 0) ≡ true = stands_is 0x80 0xBF h.0 ∙ e in
        ap (tail8 (suc m) n k) (drop_next h.0) ∙ rw b

  -- the first byte
  pub char8_end : length s ≤ at → stops not_text ≡ char8 (drop at s)
  unfolding char8
  char8_end h = rw (drop_of_length-le s h)

  module _ (h : at < length s) where
    pub char8_ascii : get_or s at 0 < 0x80 → took (get_or s at 0) 1 ≡ char8 (drop at s)
    char8_ascii k = sym (ap char8 (drop_next h) ∙ first_ascii (get_or s at 0) (drop (at + 1) s) k)

    -- by the row that it chose, or none
    module _ (o : Option Row) (e : lead_told o ≡ lead_in well_formed (get_or s at 0)) (k : 0x80 ≤ get_or s at 0) where
      pub char8_row : (r : Row) → o ≡ Some r → second8 (row_told r) (get_or s at 0) (drop (at + 1) s) ≡ char8 (drop at s)
      char8_row r i = sym (ap char8 (drop_next h) ∙ lead_row (get_or s at 0) (drop (at + 1) s) (row_told r) k (sym e ∙ ap lead_told i))

      pub char8_none : o ≡ None → stops not_text ≡ char8 (drop at s)
      char8_none i = sym (ap char8 (drop_next h) ∙ lead_none (get_or s at 0) (drop (at + 1) s) k (sym e ∙ ap lead_told i))

pub row_fits : (a : ℕ) (o : Option Row) (r : Row) → lead_told o ≡ lead_in well_formed a → o ≡ Some r → Led a (row_told r)
row_fits a o r e i = led a (row_told r) (sym e ∙ ap lead_told i)

-- ---- the bytes behind the first, by the row that it chose

module _ (s : List ℕ) (at a x : ℕ) (r : T.Row) (e : x ≡ get_or s at 0 - 0x80) (h : stands_in r.low r.high (drop at s) ≡ true) where
  abbrev second : ℕ
  second = (a - r.marker) * 64 + x

  reached : (m : ℕ) → r.more ≡ m → second8 r a (drop at s) ≡ tail8 m second 2 (drop (at + 1) s)
  reached m o = second_is s at a r h ∙ rw (o, e)

  pub rest_two : r.more ≡ 0 → took second 2 ≡ second8 r a (drop at s)
  rest_two o = sym (reached 0 o)

  pub third_not : 0 < r.more → stands_in 0x80 0xBF (drop (at + 1) s) ≡ false → stops not_text ≡ second8 r a (drop at s)
  third_not o f =
      let q : r.more ≡ suc (r.more - 1) = omega arith in
      sym (reached (suc (r.more - 1)) q ∙ tail_not s (at + 1) (r.more - 1) second 2 f)

  module _ (y : ℕ) (f : y ≡ get_or s (at + 1) 0 - 0x80) (g : stands_in 0x80 0xBF (drop (at + 1) s) ≡ true) where
    third_is : (m : ℕ) → r.more ≡ suc m → second8 r a (drop at s) ≡ tail8 m (second * 64 + y) 3 (drop (at + 2) s)
    third_is m o =
        let p : at + 1 + 1 ≡ at + 2 = omega arith in
        reached (suc m) o ∙ (tail_is s (at + 1) m second 2 g ∙ rw (p, f))

    pub rest_three : r.more ≡ 1 → took (second * 64 + y) 3 ≡ second8 r a (drop at s)
    rest_three o = sym (third_is 0 o)

    pub fourth_not : r.more ≡ 2 → stands_in 0x80 0xBF (drop (at + 2) s) ≡ false → stops not_text ≡ second8 r a (drop at s)
    fourth_not o k = sym (third_is 1 o ∙ tail_not s (at + 2) 0 (second * 64 + y) 3 k)

    pub rest_four : (z : ℕ) → z ≡ get_or s (at + 2) 0 - 0x80 → r.more ≡ 2 → stands_in 0x80 0xBF (drop (at + 2) s) ≡ true →
        took ((second * 64 + y) * 64 + z) 4 ≡ second8 r a (drop at s)
    rest_four z k o l = sym (third_is 1 o ∙ (tail_is s (at + 2) 0 (second * 64 + y) 3 l ∙ rw k))

-- what the checks of the rest of a character need
pub ruleset rest8 = (stands_true, second_not, rest_two, third_not, rest_three, fourth_not, rest_four)

pub ruleset first8 = (char8_end, char8_ascii, char8_row, char8_none, row_fits)
