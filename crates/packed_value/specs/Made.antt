-- The value of three numbers, as the code makes it: in the declared types, of which the laws of rows speak. proofs/Told.antt says what it tells.
use Rattle.std.specs.Prelude.{Err, Ok, Result, None, Option, Some}
use Rattle.std.specs.Prelude.{ℕ, ◌%◌, ◌^◌, List, not, get_or, eqb}
use Rattle.lists.specs.Pick.{pick}
use Rattle.format.specs.Answer as A
use Rattle.format.specs.Number.{signed}
use Rattle.bits.specs.Told.{float32_of, float64_of}
use Rattle.wire.specs.Told.{refusal_told}
use Rattle.wire.specs.declared.Refusal.{Refusal}
use Rattle.value_kind.specs.declared.Scalar.{Scalar}
use Rattle.value_kind.specs.declared.Scalar.TheVariants as C
use Rattle.value_kind.specs.declared.Span.{Span}
use Rattle.value_kind.specs.declared.Value.{Value}
use Rattle.value_kind.specs.declared.Value.TheVariants as W
use Rattle.value_kind.specs.Told.{made32, made64}
use Rattle.packed.specs.Each.{each}
use Rattle.packed_value.specs.Numbers.{narrow}

abbrev pub span_of : ℕ → ℕ → Span
span_of start count = record { start = start; count = count }

unfoldable pub value_made : ℕ → ℕ → ℕ → Value
value_made k first second =
    pick (eqb k 1) (W.Scalar (C.Bit (not (eqb first 0))))
    (pick (eqb k 2) (W.Scalar (C.U8 (first % 256)))
    (pick (eqb k 3) (W.Scalar (C.I16 (narrow 2 first)))
    (pick (eqb k 4) (W.Scalar (C.I32 (narrow 4 first)))
    (pick (eqb k 5) (W.Scalar (C.I64 (signed 8 first)))
    (pick (eqb k 6) (W.Scalar (made32 (float32_of (first % 256 ^ 4))))
    (pick (eqb k 7) (W.Scalar (made64 (float64_of (first % 256 ^ 8))))
    (pick (eqb k 8) (W.Scalar (C.Guid (record { high = first; low = second })))
    (pick (eqb k 9) (W.Binary (span_of first second))
    (pick (eqb k 10) (W.String (span_of first second))
    W.Null)))))))))

abbrev pub given_made : List ℕ → Value
given_made v = value_made (get_or v 0 0) (get_or v 1 0) (get_or v 2 0)

abbrev pub givens_made : List ℕ → List Value
givens_made vs = each 3 given_made vs

-- what judging tells: why there is no value
abbrev pub judged_told : Result (Unit {0}) Refusal → Option A.Refusal
judged_told (Ok tt) = None
judged_told (Err e) = Some (refusal_told e)
