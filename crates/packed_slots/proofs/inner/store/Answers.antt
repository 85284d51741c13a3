-- `packed_slots::inner::store` meets its contract: three stores are a run. Assumes nothing.
use native.Mathlib.Omega.{arith}
use native.Mathlib.Numerals.{unary_clauses}
use lib.ListN.{length-set}
use Rattle.lists.proofs.Front.{sets_put}
use Rattle.packed_slot.specs.Slots.{slot_told}
use Rattle.packed_slots.proofs.inner.store.Goals as goal

pub bounds-values-at-2 : goal.bounds-values-at-2
bounds-values-at-2 c = simp length-set (omega (arith, c.requires))

pub bounds-values-at-3 : goal.bounds-values-at-3
bounds-values-at-3 c = simp length-set (omega (arith, c.requires))

pub returns : goal.returns
returns c =
    let a = c.args in
    simp unary_clauses (sets_put a.values.now a.at (slot_told a.slot) c.requires)
