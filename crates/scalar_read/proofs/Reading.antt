-- A whole number that fits its type is what a value of the type holds. A GUID that was read tells the text order of its sixteen bytes: it is read as two
-- numbers of eight bytes, and those have their eight bytes again.
-- Assumes nothing.
use mathlib.Core.Path.{◌≡◌, ap}
use mathlib.Core.List.{List}
use Prim.Native.Nat.{ℕ, ◌+◌, ◌^◌, ◌≤◌, ◌<◌}
use native.Mathlib.Omega.{arith}
use lib.IntN.{ℤ}
use lib.Signed.{mag}
use mir.Syntax.{Width}
use mir.Val.{hbits, to_z, of_z}
use mir.Facts.{to_z-of_z}
use lib.ListN.{length, take, drop, length-drop}
use lib.Seq.{length-take-le}
use Rattle.format.specs.Guid.{guid_order}
use Rattle.format.specs.Scalar as S
use Rattle.format.proofs.Number.{Bytes}
use Rattle.format.proofs.Plain.{bytes_take, bytes_drop}
use Rattle.wire.specs.Told.{guid_bytes, guid_text}
use Rattle.wire.proofs.GuidBack.{guid_read_back}

pub whole : (w : Width) (z : ℤ) → mag z < 2 ^ hbits w → to_z w (of_z w z) ≡ z
whole w z h = to_z-of_z (record { sfits = h })

pub guid_there : (s : List ℕ) (at : ℕ) → at + 16 ≤ length s → Bytes s →
    let x = take 16 (drop at s) in S.Scalar.guid (guid_bytes (guid_text x)) ≡ S.Scalar.guid (guid_order x)
guid_there s at h b =
    let l = length-take-le 16 (drop at s) (omega (arith, length-drop at s)) in
    ap S.Scalar.guid (guid_read_back (take 16 (drop at s)) l (bytes_take 16 (drop at s) (bytes_drop at s b)))
