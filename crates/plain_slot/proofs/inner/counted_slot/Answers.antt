-- `plain_slot::inner::counted_slot` meets its contract: by the count. Assumes nothing.
use mathlib.Core.Path.{sym, ap, ◌∙◌}
use mathlib.Core.Bool.{true, false}
use mathlib.Core.List.{List}
use Prim.Native.Nat.{ℕ}
use native.Mathlib.Omega.{arith}
use lib.ListN.{get_or, take, drop}
use lib.Seq.{drop-drop}
use borrow.Author.Tests.{eq-eqb, ne_eqb}
use Rattle.format.specs.Scalar.{width, scalar_of}
use Rattle.value_kind.specs.Told.{kind_told}
use Rattle.packed_slot.specs.Slots.{scalar_slot}
use Rattle.plain_slot.proofs.Bytes.{first_byte, begins-inside, behind-inside}
use Rattle.plain_slot.proofs.inner.counted_slot.Goals as goal

pub bounds-s-at : goal.bounds-s-at
bounds-s-at c = begins-inside c.args.s.now c.args.at c.requires.0

pub returns-then-s-at-eq0 : goal.returns-then-s-at-eq0
returns-then-s-at-eq0 c =
    let a = c.args in
    let t = eq-eqb (get_or (drop a.at a.s.now) 0 0) 0 (first_byte a.s.now a.at ∙ c.if-s-at-eq0.true) in
    rw t c.one.ensures

pub overflow_add-at : goal.overflow_add-at
overflow_add-at c =
    let a = c.args in
    record { fits = omega (arith, begins-inside a.s.now a.at c.requires.0, c.well_formed) }

pub slot_at-requires : goal.slot_at-requires
slot_at-requires c =
    let a = c.args in
    let there = c.requires.1 (λ e. c.if-s-at-eq0.false (sym (first_byte a.s.now a.at) ∙ e)) in
    (behind-inside a.s.now a.at (kind_told a.k) there, c.requires.2)

pub returns : goal.returns
returns c =
    let a = c.args in
    let t = ne_eqb (get_or (drop a.at a.s.now) 0 0) 0 (λ e. c.if-s-at-eq0.false (sym (first_byte a.s.now a.at) ∙ e)) in
    let k = kind_told a.k in
    rw t (c.slot_at.ensures ∙ ap (λ (l : List ℕ). scalar_slot (scalar_of k (take (width k) l))) (sym (drop-drop 1 a.at a.s.now)))
