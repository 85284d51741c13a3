-- `value_fill::inner::fill_scalar` meets its contract: the value's bytes, alone or behind their count. Assumes nothing.
use lib.ListN.{length}
use mathlib.Core.List.{List, [], ◌∷◌}
use Prim.Native.Nat.{ℕ}
use lib.Seq.{sets}
use Rattle.value_kind.specs.Told.{kind_told, listed_told, scalar_told}
use mathlib.Core.Path.{refl, ap, ◌∙◌}
use native.Mathlib.Omega.{arith}
use mathlib.Core.List.{[], ◌∷◌}
use Rattle.lists.proofs.Front.{sets_then}
use Rattle.format.specs.Scalar.{width, kind_of, scalar_bytes}
use Rattle.format.specs.Answer.{kind, not_carried}
use Rattle.value_kind.specs.Told.{kind_told, scalar_told}
use Rattle.wire.proofs.Writing.{not_refused, count_is, filled}
use Rattle.value_kind.proofs.ScalarLaws.{length-bytes, width_most, fixed-written, listed-written}
use Rattle.value_fill.proofs.inner.fill_scalar.Goals as goal

pub put_scalar-requires : goal.put_scalar-requires
put_scalar-requires c =
    let p = rw c.in-Fixed.is at c.requires in
    let n = fixed-written c.args.declared c.args.s (kind_told c.in-Fixed.field-0) (length c.args.out.now) p in
    let v = scalar_told c.args.s in
    omega (arith, count_is _ _ (scalar_bytes v) p n, length-bytes c.args.s)

pub overflow_cast-bytes : goal.overflow_cast-bytes
overflow_cast-bytes c = record { fits = omega (arith, c.bytes.ensures, width_most (kind_told c.kind.result)) }

pub put_byte-requires : goal.put_byte-requires
put_byte-requires c =
    let p = rw c.in-LengthByte.is at c.requires in
    let n = listed-written c.args.declared c.args.s (listed_told c.in-LengthByte.field-0) (length c.args.out.now) p in
    let v = scalar_told c.args.s in
    omega (arith, count_is _ _ (width (kind_of v) ∷ scalar_bytes v) p n)

pub put_scalar-requires-in-LengthByte : goal.put_scalar-requires-in-LengthByte
put_scalar-requires-in-LengthByte c =
    let p = rw c.in-LengthByte.is at c.requires in
    let n = listed-written c.args.declared c.args.s (listed_told c.in-LengthByte.field-0) (length c.args.out.now) p in
    let v = scalar_told c.args.s in
    omega (arith, c.put_byte.auto.out, count_is _ _ (width (kind_of v) ∷ scalar_bytes v) p n, length-bytes c.args.s)

pub returns-in-Fixed : goal.returns-in-Fixed
returns-in-Fixed c =
    let p = rw c.in-Fixed.is at c.requires in
    let n = fixed-written c.args.declared c.args.s (kind_told c.in-Fixed.field-0) (length c.args.out.now) p in
    let v = scalar_told c.args.s in
    rw c.in-Fixed.is (filled _ c.args.out.now _ (scalar_bytes v) p n c.put_scalar.ensures)

pub returns-in-LengthByte : goal.returns-in-LengthByte
returns-in-LengthByte c =
    let p = rw c.in-LengthByte.is at c.requires in
    let n = listed-written c.args.declared c.args.s (listed_told c.in-LengthByte.field-0) (length c.args.out.now) p in
    let v = scalar_told c.args.s in
    let w = c.bytes.ensures ∙ ap width c.kind.ensures in
    let out = c.args.out.now in
    rw c.in-LengthByte.is (filled _ out _ (width (kind_of v) ∷ scalar_bytes v) p n
    (c.put_scalar-in-LengthByte.ensures
    ∙ (ap (λ (l : List ℕ). sets l 1 (scalar_bytes v)) c.put_byte.ensures
    ∙ (sets_then out 0 1 (c.bytes.result ∷ []) (scalar_bytes v) refl ∙ ap (λ (m : ℕ). sets out 0 (m ∷ scalar_bytes v)) w))))

pub returns-in-Content : goal.returns-in-Content
returns-in-Content c = not_refused kind _ (rw c.in-Content.is at c.requires)

pub returns-in-NotCarried : goal.returns-in-NotCarried
returns-in-NotCarried c = not_refused not_carried _ (rw c.in-NotCarried.is at c.requires)
