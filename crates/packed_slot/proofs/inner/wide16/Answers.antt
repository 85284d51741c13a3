-- `packed_slot::inner::wide16` meets its contract: an integer is the one that its low bytes stand for. Assumes nothing.
use mathlib.Core.Path.{◌≡◌, sym, ap, ◌∙◌}
use Prim.Native.Nat.{ℕ}
use mir.Syntax.{w16}
use mir.Val.{to_z}
use mir.Facts.{to_z-of_z}
use Rattle.format.specs.Number.{signed, unsigned}
use Rattle.bits.proofs.Complement.{signed_is, unsigned_is}
use Rattle.packed_slot.proofs.inner.wide16.Goals.{Start}
use Rattle.packed_slot.proofs.inner.wide16.Goals as goal

back : (c : Start) → signed 2 (unsigned 2 c.args.z) ≡ c.args.z
back c = sym (signed_is w16 (unsigned 2 c.args.z)) ∙ (ap (to_z w16) (sym (unsigned_is w16 c.args.z)) ∙ to_z-of_z {w = w16} c.ranges.z)

pub returns : goal.returns
returns c =
    let is = c.of_i16.ensures ∙ ap (unsigned 2) (to_z-of_z {w = w16} c.ranges.z) in
    c.widen_two.ensures ∙ (ap (λ (m : ℕ). unsigned 8 (signed 2 m)) is ∙ ap (unsigned 8) (back (goal.at.returns c).Start))
