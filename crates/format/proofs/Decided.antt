-- The generic law behind "no two different outcomes satisfy it" (document 01, "What the proofs must shut out").
-- A public call's contract says of its answer r that `told r` is a function of the input, and of the room that it is a function of the input.
-- Where `told` has an inverse from the left, two answers that keep the contract on the same input are one answer.
-- Assumes nothing.
use mathlib.Core.Path.{◌≡◌, sym, ap, ◌∙◌}

-- `back` undoes `told`.
abbrev pub Undoes : {A B : Type 0} → (A → B) → (B → A) → Type 0
Undoes {A} told back = (a : A) → back (told a) ≡ a

-- No two answers satisfy `told r ≡ b`.
pub decided : {A B : Type 0} (told : A → B) (back : B → A) → Undoes told back → (x y : A) (b : B) → told x ≡ b → told y ≡ b → x ≡ y
decided told back u x y b p q = sym (u x) ∙ (ap back (p ∙ sym q) ∙ u y)

-- No two rooms satisfy `room ≡ b`.
pub one_room : {B : Type 0} (x y b : B) → x ≡ b → y ≡ b → x ≡ y
one_room x y b p q = p ∙ sym q
