-- `value_form::inner::length_byte` meets its contract: the length and the bytes as they came, but for a bit. Assumes nothing.
use Rattle.std.specs.Prelude.{Some}
use mathlib.Core.Path.{◌≡◌, sym, ◌∙◌}
use Prim.Native.Nat.{ℕ, ◌<◌}
use native.Mathlib.Omega.{arith}
use lib.ListN.{length, get_or}
use Rattle.format.specs.Value.{length_byte}
use Rattle.format.proofs.Number.{Bytes}
use Rattle.value_kind.specs.Told.{listed_told}
use Rattle.value_form.specs.Told.{normal_in, IsRead}
use Rattle.value_form.proofs.Forming.{listed_there, listed_same, ListedBit, listed-bit}
use Rattle.value_form.proofs.inner.length_byte.Goals.{After-shared_slice_known-2-1, Start, Then-lists}
use Rattle.value_form.proofs.inner.length_byte.Goals as goal

-- there is one
there : (c : Start) → 0 < length c.args.rest.now
there c = listed_there c.args.l c.requires.0 c.args.rest.now c.requires.1

pub bounds-rest-0 : goal.bounds-rest-0
bounds-rest-0 c = there (goal.at.bounds-rest-0 c).Start

bytes : (c : After-shared_slice_known-2-1) → Bytes c.args.rest.now
bytes c i = omega (arith, c.type_inv.rest i)

pub overflow_cast-n : goal.overflow_cast-n
overflow_cast-n c = omega (arith, bytes c 0)

pub overflow_add-result : goal.overflow_add-result
overflow_add-result c = omega (arith, bytes (goal.at.overflow_add-result c).After-shared_slice_known-2-1 0)

pub returns-then-n-ne1 : goal.returns-then-n-ne1
returns-then-n-ne1 c d i =
    let a = c.args in
    listed_same a.l d a.rest.now (bytes (goal.at.returns-then-n-ne1 c).After-shared_slice_known-2-1) i (λ e. absurd (c.if-n-ne1.true e))

-- a bit behind a length of 1
bit : (c : Then-lists) (d : ℕ) → let a = c.args in
    IsRead (normal_in d (Some (length_byte (listed_told a.l))) a.rest.now) → ListedBit a.l d a.rest.now
bit c d i =
    let a = c.args in
    listed-bit a.l d a.rest.now i c.if-n-ne1.false (sym c.lists.ensures ∙ c.if-lists.true)

pub bit-requires : goal.bit-requires
bit-requires c = (bit c c.requires.0 c.requires.1).inside

pub returns-then-lists : goal.returns-then-lists
returns-then-lists c d i = c.bit.ensures ∙ (bit (goal.at.returns-then-lists c).Then-lists d i).is

pub returns : goal.returns
returns c d i =
    let a = c.args in
    let e : get_or a.rest.now 0 0 ≡ 1 = c.if-n-ne1.false in
    rw e at (listed_same a.l d a.rest.now (bytes (goal.at.returns c).After-shared_slice_known-2-1) i (λ _. sym c.lists.ensures ∙ c.if-lists.false))
