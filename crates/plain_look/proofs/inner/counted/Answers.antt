-- `plain_look::inner::counted` meets its contract: by the count. Assumes nothing.
use mathlib.Core.Path.{◌≡◌, ap, ◌∙◌}
use Prim.Native.Nat.{ℕ}
use native.Mathlib.Nat.{add-zero}
use native.Mathlib.Omega.{arith}
use lib.ListN.{get_or, drop, length-drop}
use lib.Seq.{get_or-drop}
use Rattle.format.proofs.Number.{Bytes}
use Rattle.format.proofs.Plain.{bytes_drop}
use Rattle.plain_look.proofs.Standing.{null-width, counted-width}
use Rattle.plain_look.proofs.inner.counted.Goals.{After-shared_slice_known-1, Start}
use Rattle.plain_look.proofs.inner.counted.Goals as goal

-- the value's bytes
bytes : (c : After-shared_slice_known-1) → Bytes c.args.s.now
bytes c i = omega (arith, c.type_inv.s i)

pub overflow_cast-n : goal.overflow_cast-n
overflow_cast-n c = omega (arith, bytes (goal.at.overflow_cast-n c).After-shared_slice_known-1 c.args.at)

first : (c : Start) → get_or (drop c.args.at c.args.s.now) 0 0 ≡ get_or c.args.s.now c.args.at 0
first c =
    let a = c.args in
    get_or-drop a.at a.s.now 0 0 ∙ ap (λ (i : ℕ). get_or a.s.now i 0) (add-zero a.at)

pub returns-then-n-eq0 : goal.returns-then-n-eq0
returns-then-n-eq0 c =
    let a = c.args in
    null-width a.k (drop c.args.at c.args.s.now) (omega (arith, length-drop a.at a.s.now, c.if-there-eq0.false))
    (first (goal.at.returns-then-n-eq0 c).Start ∙ c.if-n-eq0.true)

pub returns : goal.returns
returns c =
    let a = c.args in
    counted-width a.k (get_or a.s.now a.at 0) (drop c.args.at c.args.s.now) (first (goal.at.returns c).Start) (c.if-n-bytes.false ∙ c.bytes.ensures)
    c.if-n-eq0.false
    (bytes_drop a.at a.s.now (bytes (goal.at.returns c).After-shared_slice_known-1)) (omega (arith, length-drop a.at a.s.now, c.if-there-n.false))
