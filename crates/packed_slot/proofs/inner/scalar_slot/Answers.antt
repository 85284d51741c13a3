-- `packed_slot::inner::scalar_slot` meets its contract, kind by kind. Assumes nothing.
use mathlib.Core.Path.{ap, ◌∙◌}
use mathlib.Core.List.{[], ◌∷◌}
use Prim.Native.Nat.{ℕ}
use mir.Syntax.{w16, w32}
use mir.Facts.{to_z-of_z}
use Rattle.format.specs.Number.{unsigned}
use Rattle.packed_slot.proofs.Halves.{halves}
use Rattle.packed_slot.proofs.inner.scalar_slot.Goals as goal

pub returns-in-Bit : goal.returns-in-Bit
returns-in-Bit c = rw (c.one.ensures, c.number-n.ensures, c.in-Bit.is)

pub returns-in-U8 : goal.returns-in-U8
returns-in-U8 c = rw (c.one-in-U8.ensures, c.number-n.ensures, c.in-U8.is)

pub returns-in-I16 : goal.returns-in-I16
returns-in-I16 c =
    let whole = c.wide16.ensures ∙ ap (unsigned 8) (to_z-of_z {w = w16} (record { sfits = c.in-I16.known_told-1-own.given.0.1 })) in
    rw c.in-I16.is (c.one-in-I16.ensures ∙ ap (λ (n : ℕ). 3 ∷ n ∷ 0 ∷ []) whole)

pub returns-in-I32 : goal.returns-in-I32
returns-in-I32 c =
    let whole = c.wide32.ensures ∙ ap (unsigned 8) (to_z-of_z {w = w32} (record { sfits = c.in-I32.known_told-in-I32-1-own.given.0.1 })) in
    rw c.in-I32.is (c.one-in-I32.ensures ∙ ap (λ (n : ℕ). 4 ∷ n ∷ 0 ∷ []) whole)

pub returns-in-I64 : goal.returns-in-I64
returns-in-I64 c = rw (c.one-in-I64.ensures, c.number-n.ensures, c.in-I64.is)

pub returns-in-F32 : goal.returns-in-F32
returns-in-F32 c = rw (c.one-in-F32.ensures, c.number-n.ensures, c.in-F32.is)

pub returns-in-F32Nan : goal.returns-in-F32Nan
returns-in-F32Nan c = rw (c.one-in-F32Nan.ensures, c.number-n.ensures, c.in-F32Nan.is)

pub returns-in-F64 : goal.returns-in-F64
returns-in-F64 c = rw (c.one-in-F64.ensures, c.number-n.ensures, c.in-F64.is)

pub returns-in-F64Nan : goal.returns-in-F64Nan
returns-in-F64Nan c = rw (c.one-in-F64Nan.ensures, c.number-n.ensures, c.in-F64Nan.is)

pub returns-in-Guid : goal.returns-in-Guid
returns-in-Guid c = rw c.in-Guid.is (halves c.in-Guid.g (rw c.in-Guid.is at c.requires))
