-- A GUID's sixteen bytes on the wire are three numbers low byte first, then eight bytes as they are: what the code writes is the order of document 01.
-- Assumes nothing.
use mathlib.Core.Path.{◌≡◌, refl, ap, ◌∙◌}
use mathlib.Core.List.{List, ◌++◌}
use Prim.Native.Nat.{ℕ, ◌+◌, ◌/◌}
use native.Mathlib.Omega.{arith}
use lib.ListN.{length}
use lib.Seq.{sets}
use Rattle.format.specs.Number.{low_bytes, high_bytes}
use Rattle.format.specs.Guid.{guid_order}
use Rattle.lists.proofs.Front.{sets_more}
use Rattle.wire.specs.declared.Guid.{Guid}
use Rattle.wire.specs.Told.{guid_wire}

wire_is : (g : Guid) → low_bytes 4 (g.high / 4294967296) ++ (low_bytes 2 (g.high / 65536) ++ (low_bytes 2 g.high ++ high_bytes 8 g.low)) ≡ guid_wire g
unfolding guid_wire guid_order
wire_is g =
    let f : g.high / 256 / 256 ≡ g.high / 65536 = omega arith in
    let e : g.high / 65536 / 256 / 256 ≡ g.high / 4294967296 = omega arith in
    rw (f, e)

pub length_wire : (g : Guid) → length (guid_wire g) ≡ 16
unfolding guid_wire guid_order
length_wire g = refl

pub guid-written : (out : List ℕ) (at : ℕ) (g : Guid) →
    sets (sets (sets (sets out at (low_bytes 4 (g.high / 4294967296))) (at + 4) (low_bytes 2 (g.high / 65536))) (at + 6) (low_bytes 2 g.high))
    (at + 8) (high_bytes 8 g.low)
    ≡ sets out at (guid_wire g)
guid-written out at g =
    let a = low_bytes 4 (g.high / 4294967296) in
    let b = low_bytes 2 (g.high / 65536) in
    let c = low_bytes 2 g.high in
    let d = high_bytes 8 g.low in
    ap (λ (l : List ℕ). sets (sets l (at + 6) c) (at + 8) d) (sets_more out at a b)
    ∙ (ap (λ (l : List ℕ). sets l (at + 8) d) (sets_more out at (a ++ b) c)
    ∙ (sets_more out at ((a ++ b) ++ c) d
    ∙ ap (sets out at) (wire_is g)))
