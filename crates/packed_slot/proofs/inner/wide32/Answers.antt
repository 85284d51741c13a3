-- `packed_slot::inner::wide32` meets its contract: an integer is the one that its low bytes stand for. Assumes nothing.
use mathlib.Core.Path.{◌≡◌, sym, ap, ◌∙◌}
use Prim.Native.Nat.{ℕ}
use mir.Syntax.{w32}
use mir.Val.{to_z}
use mir.Facts.{to_z-of_z}
use Rattle.format.specs.Number.{signed, unsigned}
use Rattle.bits.proofs.Complement.{signed_is, unsigned_is}
use Rattle.packed_slot.proofs.inner.wide32.Goals.{Start}
use Rattle.packed_slot.proofs.inner.wide32.Goals as goal

back : (c : Start) → signed 4 (unsigned 4 c.args.z) ≡ c.args.z
back c = sym (signed_is w32 (unsigned 4 c.args.z)) ∙ (ap (to_z w32) (sym (unsigned_is w32 c.args.z)) ∙ to_z-of_z {w = w32} c.ranges.z)

pub returns : goal.returns
returns c =
    let is = c.of_i32.ensures ∙ ap (unsigned 4) (to_z-of_z {w = w32} c.ranges.z) in
    c.widen_four.ensures ∙ (ap (λ (m : ℕ). unsigned 8 (signed 4 m)) is ∙ ap (unsigned 8) (back (goal.at.returns c).Start))
