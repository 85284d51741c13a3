-- `value_normal::inner::plp_in` meets its contract: a null lengthens the run, content is put behind it, and there is no refusal. Assumes nothing.
use Rattle.std.specs.Prelude.{Option}
use mathlib.Core.Path.{◌≡◌, sym, ap, ◌∙◌}
use mathlib.Core.List.{List}
use Prim.Native.Nat.{ℕ, ◌≤◌}
use native.Mathlib.Omega.{arith}
use lib.ListN.{length, drop}
use Rattle.lists.proofs.Lent.{rest_is}
use Rattle.format.specs.Answer.{Read, map_read}
use Rattle.format.specs.Plp.{read_plp, plp_bytes}
use Rattle.format.proofs.Number.{Bytes}
use Rattle.plp_join.specs.Told.{counted}
use Rattle.value_normal.proofs.Growing.{fits_inside}
use Rattle.value_normal.proofs.Null.{null-inside, null_grows, not_refused}
use Rattle.value_normal.proofs.inner.plp_in.Goals.{After-judge_plp, Start}
use Rattle.value_normal.proofs.inner.plp_in.Goals as goal

-- its place lies inside
inside : (c : Start) → c.args.run.at ≤ length c.args.s.now
inside c = fits_inside c.args.s.now (length c.args.out.now) c.args.run (map_read plp_bytes (read_plp c.args.text (drop c.args.run.at c.args.s.now))) c.requires

pub slice_bounds-judge_plp-count : goal.slice_bounds-judge_plp-count
slice_bounds-judge_plp-count c = inside (goal.at.slice_bounds-judge_plp-count c).Start

pub slice_bounds-judge_plp-start : goal.slice_bounds-judge_plp-start
slice_bounds-judge_plp-start c = omega (arith, inside (goal.at.slice_bounds-judge_plp-start c).Start)

bytes : (c : After-judge_plp) → Bytes c.args.s.now
bytes c i = omega (arith, c.type_inv.s i)

-- what was judged, of the rest from the place on
judged : (c : Start) (part : List ℕ) (r : Read (Option ℕ)) → part ≡ drop c.args.run.at c.args.s.now → r ≡ map_read counted (read_plp c.args.text part)
    → map_read counted (read_plp c.args.text (drop c.args.run.at c.args.s.now)) ≡ r
judged c part r p e = sym (e ∙ ap (λ (l : List ℕ). map_read counted (read_plp c.args.text l)) p)

pub overflow_add-result : goal.overflow_add-result
overflow_add-result c =
    let a = c.args in
    let v = goal.at.overflow_add-result c in
    let j = rw c.in-Ok-None.field-0-is at c.in-Ok-None.ensures in
    omega (
      arith,
      null-inside a.text a.s.now a.out.now a.run (bytes v.After-judge_plp) (judged v.Start _ _ (rest_is a.s.now a.run.at) j) c.requires,
      c.well_formed,
    )

pub content_in-requires : goal.content_in-requires
content_in-requires c =
    let j = rw c.in-Ok-Some.field-0-is at c.in-Ok-Some.ensures in
    (judged (goal.at.content_in-requires c).Start _ _ (rest_is c.args.s.now c.args.run.at) j, c.requires)

pub returns-in-Ok-None : goal.returns-in-Ok-None
returns-in-Ok-None c =
    let a = c.args in
    let v = goal.at.returns-in-Ok-None c in
    let j = rw c.in-Ok-None.field-0-is at c.in-Ok-None.ensures in
    null_grows a.text a.s.now a.out.now a.run (bytes v.After-judge_plp) (judged v.Start _ _ (rest_is a.s.now a.run.at) j) c.requires

pub returns-in-Err : goal.returns-in-Err
returns-in-Err c =
    let a = c.args in
    not_refused a.s.now (length a.out.now) a.run (read_plp c.args.text (drop c.args.run.at c.args.s.now)) _
    (judged (goal.at.returns-in-Err c).Start _ _ (rest_is a.s.now a.run.at) c.in-Err.ensures) c.requires
