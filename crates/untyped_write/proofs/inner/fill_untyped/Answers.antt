-- `untyped_write::inner::fill_untyped` meets its contract: each kind of value behind its own descriptor. Assumes nothing.
use mathlib.Core.Path.{refl}
use native.Mathlib.Omega.{arith}
use mathlib.Core.List.{[], ◌∷◌}
use Rattle.format.specs.Descriptor.{FixedLen, fixed_byte}
use Rattle.format.specs.Value.{Given, write_untyped}
use Rattle.wire.proofs.Writing.{count_is, filled}
use Rattle.untyped_write.proofs.inner.fill_untyped.Goals as goal

pub put_byte-requires : goal.put_byte-requires
unfolding write_untyped
put_byte-requires c = omega (arith, count_is (write_untyped Given.null) _ (fixed_byte FixedLen.null ∷ []) (rw c.in-Null.is at c.requires) refl)

pub fill_untyped_scalar-requires : goal.fill_untyped_scalar-requires
fill_untyped_scalar-requires c = (rw c.in-Scalar.is at c.requires)

pub fill_untyped_content-requires : goal.fill_untyped_content-requires
fill_untyped_content-requires c = (rw c.in-Binary.is at c.requires)

pub fill_untyped_content-requires-in-String : goal.fill_untyped_content-requires-in-String
fill_untyped_content-requires-in-String c = (rw c.in-String.is at c.requires)

pub returns-in-Null : goal.returns-in-Null
unfolding write_untyped
returns-in-Null c =
    rw c.in-Null.is
    (filled (write_untyped Given.null) c.args.out.now _ (fixed_byte FixedLen.null ∷ []) (rw c.in-Null.is at c.requires) refl
    (rw c.from.ensures at c.put_byte.ensures))

pub returns-in-Scalar : goal.returns-in-Scalar
returns-in-Scalar c = rw c.in-Scalar.is c.fill_untyped_scalar.ensures

pub returns-in-Binary : goal.returns-in-Binary
returns-in-Binary c = rw c.in-Binary.is c.fill_untyped_content.ensures

pub returns-in-String : goal.returns-in-String
returns-in-String c = rw c.in-String.is c.fill_untyped_content-in-String.ensures
