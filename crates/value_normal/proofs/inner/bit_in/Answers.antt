-- `value_normal::inner::bit_in` meets its contract: the run and a 1 behind it are one row of stores. Assumes nothing.
use mathlib.Core.Path.{◌≡◌, sym, ap, ◌∙◌}
use mathlib.Core.List.{List, [], ◌∷◌}
use Prim.Native.Nat.{ℕ, ◌+◌, ◌-◌}
use native.Mathlib.Omega.{arith}
use lib.Seq.{sets}
use Rattle.lists.proofs.Front.{sets_put, sets_then}
use Rattle.value_normal.specs.Runs.{held, run_on}
use Rattle.value_normal.specs.declared.Run.{Run}
use Rattle.value_normal.proofs.Growing.{held-length}
use Rattle.value_normal.proofs.inner.bit_in.Goals as goal

pub returns : goal.returns
returns c =
    let a = c.args in
    let r : Run = record { from = a.run.from; at = a.at; put = a.run.put } in
    let o : c.close_run-o.result ≡ a.run.put + (a.at - a.run.from) = c.close_run-o.ensures.0 in
    let l = held-length a.s.now r c.requires.0 (omega (arith, c.requires.1)) in
    let p = sets_put a.out.now a.run.put (held a.s.now r) (omega (arith, l, c.requires.2)) in (
      ap (λ (k : ℕ). run_on (a.at + 1) (k + 1)) o,
      c.put_byte.ensures
          ∙ (ap (λ (x : List ℕ). sets x c.close_run-o.result (1 ∷ [])) (c.close_run-o.ensures.1 ∙ sym p)
          ∙ sets_then a.out.now a.run.put c.close_run-o.result (held a.s.now r) (1 ∷ []) (omega (arith, o, l))),
    )
