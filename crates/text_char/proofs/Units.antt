-- One character of UTF-16LE at a place: by the unit there, and by the one behind it where the first is a high surrogate.
-- Assumes nothing.
use mathlib.Core.Path.{◌≡◌, ap, sym, ◌∙◌}
use mathlib.Core.List.{List, ◌∷◌}
use mathlib.Core.Bool.{true, false}
use Prim.Native.Nat.{ℕ, ◌+◌, ◌*◌, ◌-◌, ◌<◌, ◌≤◌}
use native.Mathlib.Omega.{arith}
use lib.ListN.{length, get_or, drop, length-drop}
use lib.Seq.{drop-drop}
use borrow.Author.Tests.{lt-ltb, le-ltb}
use Rattle.format.specs.Answer.{took, stops, not_text}
use Rattle.format.specs.Text.{between, unit, pair16, char16}
use Rattle.format.proofs.Characters.{between_in, between-below, between-above}
use Rattle.format.proofs.Utf16.{lone}
use Rattle.text_char.proofs.Places.{drop_next}

pub unit_there : (s : List ℕ) (at : ℕ) → at + 2 ≤ length s → get_or s at 0 + get_or s (at + 1) 0 * 256 ≡ unit (drop at s)
unit_there s at h =
    let e : drop at s ≡ get_or s at 0 ∷ get_or s (at + 1) 0 ∷ drop (at + 1 + 1) s =
    drop_next s at (omega arith) ∙ ap (◌∷◌ (get_or s at 0)) (drop_next s (at + 1) (omega arith)) in
    rw e (omega arith)

-- the unit behind a high surrogate
module _ (a : ℕ) (t : List ℕ) where
  pub pair_short : length t < 2 → stops not_text ≡ pair16 a t
  pair_short h = rw (lt-ltb (length t) 2 h)

  module _ (b : ℕ) (e : b ≡ unit t) (h : 2 ≤ length t) where
    pub pair_is : between 0xDC00 0xDFFF b ≡ true → took (0x10000 + (a - 0xD800) * 1024 + (b - 0xDC00)) 4 ≡ pair16 a t
    pair_is f = rw (le-ltb (length t) 2 h, ← e, f)

    pub pair_not : between 0xDC00 0xDFFF b ≡ false → stops not_text ≡ pair16 a t
    pair_not f = rw (le-ltb (length t) 2 h, ← e, f)

-- the first unit
module _ (s : List ℕ) (at : ℕ) where
  pub first_short : length s - at < 2 → stops not_text ≡ char16 (drop at s)
  unfolding char16
  first_short h = rw (length-drop at s, lt-ltb (length s - at) 2 h)

  module _ (a : ℕ) (e : a ≡ unit (drop at s)) (h : 2 ≤ length s - at) where
    pub first_high : 0xD800 ≤ a → a ≤ 0xDBFF → pair16 a (drop (at + 2) s) ≡ char16 (drop at s)
    unfolding char16
    first_high i j = rw (length-drop at s, le-ltb (length s - at) 2 h, ← e, between_in 0xD800 0xDBFF a i j, drop-drop 2 at s)

    pub first_low : 0xDC00 ≤ a → a ≤ 0xDFFF → stops not_text ≡ char16 (drop at s)
    unfolding char16
    first_low i j =
        let k : 0xDBFF < a = omega arith in
        rw (length-drop at s, le-ltb (length s - at) 2 h, ← e, between-above 0xD800 0xDBFF a k, between_in 0xDC00 0xDFFF a i j)

    -- neither
    first_one : between 0xD800 0xDBFF a ≡ false → between 0xDC00 0xDFFF a ≡ false → took a 2 ≡ char16 (drop at s)
    first_one f g = ap (λ (n : ℕ). took n 2) e ∙ sym (lone (drop at s) (omega (arith, length-drop at s)) (rw (← e) f) (rw (← e) g))

    pub first_below : a < 0xD800 → took a 2 ≡ char16 (drop at s)
    first_below i = first_one (between-below 0xD800 0xDBFF a i) (between-below 0xDC00 0xDFFF a (omega arith))

    pub first_above : 0xDFFF < a → took a 2 ≡ char16 (drop at s)
    first_above i = first_one (between-above 0xD800 0xDBFF a (omega arith)) (between-above 0xDC00 0xDFFF a i)

pub ruleset first16 = (first_short, first_high, first_low, first_below, first_above)
