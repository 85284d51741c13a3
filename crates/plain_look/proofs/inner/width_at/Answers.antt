-- `plain_look::inner::width_at` meets its contract: the common record by itself, the others by what is told of them. Assumes nothing.
use Rattle.std.specs.Prelude.{None, Option, Some}
use Prim.Native.Nat.{ℕ, ◌*◌}
use mathlib.Core.List.{List}
use lib.ListN.{drop}
use Rattle.format.specs.Descriptor.{Column}
use Rattle.packed.specs.Packed.{column_of, no_names}
use Rattle.value_kind.specs.declared.kinds.Kind.TheVariants as K
use Rattle.packed_plain.specs.Says.{Tells}
use Rattle.packed_plain.specs.declared.Plain.{Plain}
use Rattle.packed_plain.specs.declared.Plain.TheVariants as P
use Rattle.plain_look.specs.Stands.{value_in, IsWidth, IsWidthIn}
use Rattle.plain_look.proofs.inner.width_at.Goals as goal

-- a width under what is said of the column
width : (p : Option Plain) (c : Column) (rest : List ℕ) (n : Option ℕ) → Tells p c → IsWidth p rest n → IsWidthIn c rest n
width p c rest None said w = tt
width p c rest (Some n) said w = (value_in p rest, (w c said).0)

pub returns-then-is_int4 : goal.returns-then-is_int4
returns-then-is_int4 c =
    let d = column_of (drop (16 * c.args.i) c.args.table.now) no_names in
    width (Some (P.Counted K.I32)) d (drop c.args.at c.args.s.now) c.counted.result (c.is_int4.ensures c.if-is_int4.true) c.counted.ensures

pub returns : goal.returns
returns c = (value_in (Some c.in_ok-n.field-0-0) (drop c.args.at c.args.s.now), c.in_ok-n.ensures.0)
