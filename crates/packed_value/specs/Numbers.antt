-- A value as three numbers, for callers in other languages: its kind's, and two more.
use Rattle.std.specs.Prelude.{ℕ, ◌%◌, ◌^◌, List, [], ◌∷◌, ◌++◌, Bool, true, not, length, get_or, eqb, ltb, ℤ, None, Option, Some}
use Rattle.lists.specs.Pick.{pick}
use Rattle.format.specs.Answer.{Refusal, kind, rule, Answer, refuses, part}
use Rattle.format.specs.Number.{signed, unsigned, high_bytes}
use Rattle.format.specs.Descriptor.{both}
use Rattle.format.specs.Scalar.{Scalar}
use Rattle.format.specs.Value.{Given}
use Rattle.packed.specs.Each.{each}

-- 0 null; 1 bit, 2 u8, 3 i16, 4 i32, 5 i64, 6 f32, 7 f64, 8 guid (`Scalar.place`); 9 binary, 10 string.

-- the integer of w bytes whose 64 bits in two's complement the number is
abbrev pub narrow : ℕ → ℕ → ℤ
narrow w n = signed w (n % 256 ^ w)

abbrev pub is_signed : ℕ → ℕ → Bool
is_signed w n = eqb n (unsigned 8 (narrow w n))

-- Is there a value of the kind with this number?
unfoldable pub is_number : ℕ → ℕ → Bool
is_number k n =
    pick (eqb k 0) (eqb n 0)
    (pick (eqb k 1) (ltb n 2)
    (pick (eqb k 2) (ltb n 256)
    (pick (eqb k 3) (is_signed 2 n)
    (pick (eqb k 4) (is_signed 4 n)
    (pick (eqb k 6) (ltb n (256 ^ 4))
    true)))))

-- Is there a value of the kind with these two? Null and the numbers use no second one; a GUID and content use both.
unfoldable pub is_value : ℕ → ℕ → ℕ → Bool
is_value k first second = pick (ltb k 8) (both (eqb second 0) (is_number k first)) (ltb k 11)

-- The value: a float by its bits, a GUID by its two halves in text order, content by start and count in the buffer.
unfoldable pub value_of : List ℕ → ℕ → ℕ → ℕ → Given
value_of buffer k first second =
    pick (eqb k 1) (Given.scalar (Scalar.bit (not (eqb first 0))))
    (pick (eqb k 2) (Given.scalar (Scalar.u8 (first % 256)))
    (pick (eqb k 3) (Given.scalar (Scalar.i16 (narrow 2 first)))
    (pick (eqb k 4) (Given.scalar (Scalar.i32 (narrow 4 first)))
    (pick (eqb k 5) (Given.scalar (Scalar.i64 (signed 8 first)))
    (pick (eqb k 6) (Given.scalar (Scalar.f32 (first % 256 ^ 4)))
    (pick (eqb k 7) (Given.scalar (Scalar.f64 (first % 256 ^ 8)))
    (pick (eqb k 8) (Given.scalar (Scalar.guid (high_bytes 8 first ++ high_bytes 8 second)))
    (pick (eqb k 9) (Given.binary (part buffer first second))
    (pick (eqb k 10) (Given.string (part buffer first second))
    Given.null)))))))))

-- ---- the three numbers that a list begins with

abbrev pub given : List ℕ → List ℕ → Given
given buffer v = value_of buffer (get_or v 0 0) (get_or v 1 0) (get_or v 2 0)

-- Why they are no value: "unknown kind 3"; a list that ends within a value is 6.
abbrev pub no_value : List ℕ → Option Refusal
no_value v = pick (ltb (length v) 3) (Some rule) (pick (is_value (get_or v 0 0) (get_or v 1 0) (get_or v 2 0)) None (Some kind))

-- ---- the values of a row, one behind another

abbrev pub givens : List ℕ → List ℕ → List Given
givens buffer vs = each 3 (given buffer) vs

abbrev pub first_of : List (Option Refusal) → Option Refusal
first_of [] = None
first_of (Some e ∷ os) = Some e
first_of (None ∷ os) = first_of os

abbrev pub no_values : List ℕ → Option Refusal
no_values vs = first_of (each 3 no_value vs)

-- "before anything else"
abbrev pub unless : {A : Type 0} → Option Refusal → Answer A → Answer A
unless (Some e) answer = refuses e
unless None answer = answer
