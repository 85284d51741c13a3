-- `value_normal::inner::content_in` meets its contract: the run is copied, and the chunks joined are put behind it in the one form. Assumes nothing.
use Rattle.std.specs.Prelude.{Some}
use mathlib.Core.Path.{◌≡◌, refl, ap, ◌∙◌}
use mathlib.Core.List.{List}
use Prim.Native.Nat.{ℕ, ◌+◌, ◌-◌, ◌≤◌}
use native.Mathlib.Omega.{arith}
use lib.ListN.{length, drop}
use Rattle.lists.proofs.Lent.{rest_is}
use Rattle.format.specs.Plp.{read_plp, plp_bytes}
use Rattle.format.proofs.Plain.{bytes_drop}
use Rattle.value_kind.proofs.ContentLaws.{span-count}
use Rattle.plp_join.specs.Told.{content_of}
use Rattle.value_normal.proofs.Content.{ContentFits, content_fits, content_small, content_grows}
use Rattle.value_normal.proofs.inner.content_in.Goals.{After-formed, Start}
use Rattle.value_normal.proofs.inner.content_in.Goals as goal

-- what was judged
judged : (c : Start) → let a = c.args in ContentFits a.s.now (length a.out.now) a.run (read_plp c.args.text (drop c.args.run.at c.args.s.now)) a.count a.end
judged c = let a = c.args in content_fits a.s.now (length a.out.now) a.run (read_plp c.args.text (drop c.args.run.at c.args.s.now)) a.count a.end
    c.requires.0 c.requires.1

pub close_run-o-requires : goal.close_run-o-requires
close_run-o-requires c =
    let f = (judged (goal.at.close_run-o-requires c).Start).fits in
    (f.0, omega (arith, f.1), omega (arith, f.2))

pub overflow_cast-count : goal.overflow_cast-count
overflow_cast-count c =
    let a = c.args in
    let bytes = bytes_drop a.run.at a.s.now (λ i. omega (arith, c.type_inv.s i)) in
    omega (arith, content_small a.text (drop a.run.at a.s.now) a.count a.end bytes (judged (goal.at.overflow_cast-count c).Start).counts)

-- what was judged
judged_at_after_formed : (c : After-formed) → let a = c.args in ContentFits a.s.now (length a.out.now) a.run
    (read_plp c.args.text (drop c.args.run.at c.args.s.now)) a.count a.end
judged_at_after_formed c = let a = c.args in content_fits a.s.now (length a.out.now) a.run (read_plp c.args.text (drop c.args.run.at c.args.s.now)) a.count
    a.end c.requires.0 c.requires.1

-- how many bytes the form has
size : (c : After-formed) → let a = c.args in
    c.formed.result ≡ length (plp_bytes (Some (content_of a.text (drop a.run.at a.s.now))))
size c = c.formed.ensures.0 _ (judged_at_after_formed c).counts.long

-- the form ends inside the room
ends : (c : After-formed) →
    c.close_run-o.result + c.formed.result ≤ length c.args.out.now
ends c =
    omega (arith, size c, c.close_run-o.ensures.0, (judged_at_after_formed c).fits.2)

pub overflow_add-e : goal.overflow_add-e
overflow_add-e c = omega (arith, ends c, c.well_formed)

pub slice_bounds-put_plp-count : goal.slice_bounds-put_plp-count
slice_bounds-put_plp-count c = omega (arith, (judged (goal.at.slice_bounds-put_plp-count c).Start).fits.1)

pub slice_bounds-put_plp-start : goal.slice_bounds-put_plp-start
slice_bounds-put_plp-start c = omega (arith, (judged (goal.at.slice_bounds-put_plp-start c).Start).fits.1)

pub slice_bounds-put_plp-end-2 : goal.slice_bounds-put_plp-end-2
slice_bounds-put_plp-end-2 c = omega (arith, ends (goal.at.slice_bounds-put_plp-end-2 c).After-formed, c.close_run-o.auto.out)

pub put_plp-requires : goal.put_plp-requires
put_plp-requires c =
    let a = c.args in
    let o = c.close_run-o.result in
    let n = c.formed.result in
    let e : o + n - o ≡ n = omega arith in
    let l = span-count c.close_run-o.new.out o n (omega (arith, ends (goal.at.put_plp-requires c).After-formed, c.close_run-o.auto.out)) in
    rw (rest_is a.s.now a.run.at) ((judged (goal.at.put_plp-requires c).Start).counts.is, rw e (l ∙ size (goal.at.put_plp-requires c).After-formed))

pub overflow_add-next : goal.overflow_add-next
overflow_add-next c = omega (arith, (judged (goal.at.overflow_add-next c).Start).fits.1, c.well_formed)

pub returns : goal.returns
returns c =
    let a = c.args in
    let o = c.close_run-o.result in
    let ys = c.put_plp.ensures ∙ ap (λ (l : List ℕ). plp_bytes (Some (content_of a.text l))) (rest_is a.s.now a.run.at) in
    content_grows a.s.now a.out.now _ _ _ a.run (read_plp c.args.text (drop c.args.run.at c.args.s.now)) a.count a.end o _ (judged (goal.at.returns c).Start)
    c.close_run-o.ensures.1 c.close_run-o.ensures.0 (ap (λ (k : ℕ). o + k) (size (goal.at.returns c).After-formed)) ys refl
