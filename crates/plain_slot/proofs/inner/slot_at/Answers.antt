-- `plain_slot::inner::slot_at` meets its contract, kind by kind. Assumes nothing.
use mathlib.Core.Path.{sym, ap}
use mathlib.Core.List.{[], ◌∷◌}
use Prim.Native.Nat.{ℕ}
use native.Mathlib.Omega.{arith}
use lib.Dec.{lit≤}
use Rattle.format.specs.Scalar.{scalar_of}
use Rattle.format.proofs.Number.{signed_forth}
use Rattle.value_kind.specs.Told.{kind_told}
use Rattle.plain_slot.proofs.inner.slot_at.Goals as goal

pub low_at-requires : goal.low_at-requires
low_at-requires c = (lit≤ tt, rw c.in-U8.is at c.requires.0)

pub low_at-requires-in-I16 : goal.low_at-requires-in-I16
low_at-requires-in-I16 c = (lit≤ tt, rw c.in-I16.is at c.requires.0)

pub low_at-requires-in-I32 : goal.low_at-requires-in-I32
low_at-requires-in-I32 c = (lit≤ tt, rw c.in-I32.is at c.requires.0)

pub low_at-requires-in-I64 : goal.low_at-requires-in-I64
low_at-requires-in-I64 c = (lit≤ tt, rw c.in-I64.is at c.requires.0)

pub low_at-requires-in-F32 : goal.low_at-requires-in-F32
low_at-requires-in-F32 c = (lit≤ tt, rw c.in-F32.is at c.requires.0)

pub low_at-requires-in-F64 : goal.low_at-requires-in-F64
low_at-requires-in-F64 c = (lit≤ tt, rw c.in-F64.is at c.requires.0)

pub guid_slot-requires : goal.guid_slot-requires
guid_slot-requires c = rw c.in-Guid.is at c.requires.0

pub returns-in-Bit : goal.returns-in-Bit
returns-in-Bit c = absurd (c.requires.1 (ap kind_told c.in-Bit.is))

pub returns-in-U8 : goal.returns-in-U8
unfolding scalar_of
returns-in-U8 c = rw (c.one-in-U8.ensures, c.in-U8.is, c.low_at.ensures.value)

pub returns-in-I16 : goal.returns-in-I16
unfolding scalar_of
returns-in-I16 c = rw (c.one-in-I16.ensures, c.in-I16.is, c.widen_two.ensures, c.low_at-in-I16.ensures.value)

pub returns-in-I32 : goal.returns-in-I32
unfolding scalar_of
returns-in-I32 c = rw (c.one-in-I32.ensures, c.in-I32.is, c.widen_four.ensures, c.low_at-in-I32.ensures.value)

pub returns-in-I64 : goal.returns-in-I64
unfolding scalar_of
returns-in-I64 c =
    let n = c.low_at-in-I64.result in
    rw (c.one-in-I64.ensures, c.in-I64.is, ← c.low_at-in-I64.ensures.value)
    (ap (λ (m : ℕ). 5 ∷ m ∷ 0 ∷ []) (sym (signed_forth 8 n (omega arith) c.low_at-in-I64.ensures.small)))

pub returns-in-F32 : goal.returns-in-F32
unfolding scalar_of
returns-in-F32 c = rw (c.one-in-F32.ensures, c.in-F32.is, c.low_at-in-F32.ensures.value)

pub returns-in-F64 : goal.returns-in-F64
unfolding scalar_of
returns-in-F64 c = rw (c.one-in-F64.ensures, c.in-F64.is, c.low_at-in-F64.ensures.value)

pub returns-in-Guid : goal.returns-in-Guid
returns-in-Guid c = rw c.in-Guid.is c.guid_slot.ensures
