-- `plain_write::inner::put_counted` meets its contract: a zero, or the count and the bytes behind it. Assumes nothing.
use Rattle.std.specs.Prelude.{Some}
use mathlib.Core.Path.{◌≡◌}
use mathlib.Core.List.{List, ◌∷◌}
use Prim.Native.Nat.{ℕ, ◌+◌, ◌≤◌}
use native.Mathlib.Omega.{arith}
use lib.ListN.{length}
use Rattle.format.specs.Scalar.{width}
use Rattle.value_kind.specs.Told.{kind_told}
use Rattle.value_kind.proofs.ScalarLaws.{width_most}
use Rattle.packed_plain.specs.declared.Plain.TheVariants as P
use Rattle.plain_write.specs.Bytes.{kind_bytes, plain_bytes}
use Rattle.plain_write.proofs.Plainly.{length-kind, null-bytes, counted-bytes, counted_put}
use Rattle.plain_write.proofs.inner.put_counted.Goals.{Else-v-eq0}
use Rattle.plain_write.proofs.inner.put_counted.Goals as goal

pub put_byte-requires : goal.put_byte-requires
put_byte-requires c =
    let a = c.args in
    let h = rw (null-bytes a.k a.v.kind a.v.first a.v.second c.if-v-eq0.true) at c.requires in
    omega (arith, h)

pub returns-then-v-eq0 : goal.returns-then-v-eq0
returns-then-v-eq0 c =
    let a = c.args in
    rw (null-bytes a.k a.v.kind a.v.first a.v.second c.if-v-eq0.true) c.put_byte.ensures

pub overflow_cast-bytes : goal.overflow_cast-bytes
overflow_cast-bytes c = record { fits = omega (arith, c.bytes.ensures, width_most (kind_told c.args.k)) }

abbrev bytes : (c : Else-v-eq0) → List ℕ
bytes c = let a = c.args in kind_bytes (kind_told a.k) a.v.first a.v.second

is : (c : Else-v-eq0) →
    let a = c.args in
    plain_bytes (Some (P.Counted a.k)) a.v.kind a.v.first a.v.second ≡ width (kind_told a.k) ∷ bytes c
is c = let a = c.args in counted-bytes a.k a.v.kind a.v.first a.v.second c.if-v-eq0.false

room : (c : Else-v-eq0) →
    let a = c.args in
    a.at + 1 + width (kind_told a.k) ≤ length a.out.now
room c =
    let a = c.args in
    let h = rw (is c) at c.requires in
    omega (arith, h, length-kind (kind_told a.k) a.v.first a.v.second)

pub put_byte-requires-2 : goal.put_byte-requires-2
put_byte-requires-2 c = omega (arith, room (goal.at.put_byte-requires-2 c).Else-v-eq0)

pub put_kind-requires : goal.put_kind-requires
put_kind-requires c = omega (arith, c.put_byte-2.auto.out, room (goal.at.put_kind-requires c).Else-v-eq0)

pub returns : goal.returns
returns c =
    let a = c.args in
    rw (is (goal.at.returns c).Else-v-eq0)
    (counted_put a.out.now _ _ (bytes (goal.at.returns c).Else-v-eq0) a.at c.bytes.result (width (kind_told a.k))
    c.put_byte-2.ensures c.put_kind.ensures c.bytes.ensures)
