-- `untyped_write::inner::fill_untyped_scalar` meets its contract: the stores are one run, type byte, length, count and value. Assumes nothing.
use mathlib.Core.Path.{ap, ◌∙◌}
use native.Mathlib.Omega.{arith}
use mathlib.Core.List.{List, ◌∷◌}
use Prim.Native.Nat.{ℕ}
use Rattle.format.specs.Descriptor.{byte_len_byte}
use Rattle.format.specs.Scalar.{Scalar, width, kind_of, scalar_bytes}
use Rattle.format.specs.Value.{untyped_type}
use Rattle.value_kind.specs.Told.{kind_told, scalar_told}
use Rattle.wire.proofs.Writing.{count_is, filled}
use Rattle.value_kind.proofs.ScalarLaws.{length-bytes, width_most, untyped_bytes}
use Rattle.untyped_write.proofs.inner.fill_untyped_scalar.Goals as goal

-- type byte, length, count and value
abbrev bytes : Scalar → List ℕ
bytes v = byte_len_byte (untyped_type (kind_of v)) ∷ width (kind_of v) ∷ width (kind_of v) ∷ scalar_bytes v

pub overflow_cast-n : goal.overflow_cast-n
overflow_cast-n c = record { fits = omega (arith, c.bytes-n.ensures, width_most (kind_told c.kind-k.result)) }

pub put_byte-requires : goal.put_byte-requires
put_byte-requires c =
    let v = scalar_told c.args.s in
    let n = count_is _ _ (bytes v) c.requires (untyped_bytes c.args.s) in
    omega (arith, n)

pub put_byte-requires-2 : goal.put_byte-requires-2
put_byte-requires-2 c =
    let v = scalar_told c.args.s in
    let n = count_is _ _ (bytes v) c.requires (untyped_bytes c.args.s) in
    omega (arith, n, c.put_byte.auto.out)

pub put_byte-requires-3 : goal.put_byte-requires-3
put_byte-requires-3 c =
    let v = scalar_told c.args.s in
    let n = count_is _ _ (bytes v) c.requires (untyped_bytes c.args.s) in
    omega (arith, n, c.put_byte.auto.out, c.put_byte-2.auto.out)

pub put_scalar-requires : goal.put_scalar-requires
put_scalar-requires c =
    let v = scalar_told c.args.s in
    let n = count_is _ _ (bytes v) c.requires (untyped_bytes c.args.s) in
    omega (arith, n, length-bytes c.args.s, c.put_byte.auto.out, c.put_byte-2.auto.out, c.put_byte-3.auto.out)

pub returns : goal.returns
returns c =
    let v = scalar_told c.args.s in
    let n = count_is _ _ (bytes v) c.requires (untyped_bytes c.args.s) in
    let w = c.bytes-n.ensures ∙ ap width c.kind-k.ensures in
    let t =
    c.from.ensures
    ∙ ap byte_len_byte (c.untyped_type.ensures ∙ ap untyped_type c.kind-k.ensures) in
    filled _ c.args.out.now _ _ c.requires (untyped_bytes c.args.s)
    (rw
    (c.put_scalar.ensures, c.put_byte-3.ensures, c.put_byte-2.ensures, c.put_byte.ensures, w, t))
