-- One value's turn in the copying pass: what the room and the run show grows by the value's normal form.
-- Bytes that are copied as they came lengthen the run. Other bytes are stored behind the run's own, in one row of stores from where the run is to be put; the
-- next run is empty.
-- Assumes nothing.
use mathlib.Core.Path.{◌≡◌, refl, sym, ap, ◌∙◌}
use mathlib.Core.List.{List, ◌++◌, append_assoc, append-nil}
use Prim.Native.Nat.{ℕ, ◌+◌, ◌-◌, ◌≤◌}
use native.Mathlib.Omega.{arith}
use lib.ListN.{length, take, drop, length-append, length-drop}
use lib.Seq.{take-add, drop-drop, take_at, drop_at, length-take-le, sets, sets-eq}
use Rattle.format.specs.Answer.{Read, took, stops}
use Rattle.value_normal.specs.declared.Run.{Run}
use Rattle.value_normal.specs.Runs.{held, run_on, RunFits, Grows}

module _ (s : List ℕ) (from at n : ℕ) (l : from ≤ at) where
  -- a run that is n bytes longer
  pub held_more : take (at + n - from) (drop from s) ≡ take (at - from) (drop from s) ++ take n (drop at s)
  held_more =
      let e : at + n - from ≡ at - from + n = omega arith in
      let f : from + (at - from) ≡ at = omega arith in
      ap (λ (m : ℕ). take m (drop from s)) e
      ∙ (take-add (at - from) n (drop from s)
      ∙ ap (λ (x : List ℕ). take (at - from) (drop from s) ++ take n x) (drop-drop (at - from) from s ∙ ap (λ (m : ℕ). drop m s) f))

pub held-length : (s : List ℕ) (r : Run) → r.from ≤ r.at → r.at ≤ length s → length (held s r) ≡ r.at - r.from
held-length s r l i = length-take-le (r.at - r.from) (drop r.from s) (omega (arith, length-drop r.from s))

-- a value that fits lies inside
pub fits_inside : (s : List ℕ) (size : ℕ) (r : Run) (v : Read (List ℕ)) → RunFits s size r v → r.at ≤ length s
fits_inside s size r (took bytes n) f = omega (arith, f.1)
fits_inside s size r (stops e) f = absurd f

module _ (s out : List ℕ) (r : Run) (n : ℕ) (l : r.from ≤ r.at) (i : r.at + n ≤ length s) where
  -- the value's bytes are copied as they came
  pub grows_same : Grows s out r (take n (drop r.at s)) n out (record { from = r.from; at = r.at + n; put = r.put })
  grows_same =
      let c = length-take-le n (drop r.at s) (omega (arith, length-drop r.at s)) in
      record {
        shows =
            ap (λ (x : List ℕ). take r.put out ++ x) (held_more s r.from r.at n l)
            ∙ sym (append_assoc (take r.put out) (held s r) (take n (drop r.at s)));
        behind = refl;
        onward = omega arith;
        passed = refl;
        lies = omega arith;
        count = omega (arith, c);
      }

  -- other bytes are stored behind the run's
  pub grows_put : (bytes after : List ℕ) (put : ℕ) → r.put + (r.at - r.from) + length bytes ≤ length out → after ≡ sets out r.put (held s r ++ bytes)
      → put ≡ r.put + (r.at - r.from) + length bytes → Grows s out r bytes n after (run_on (r.at + n) put)
  grows_put bytes after put room e p =
      let w = held s r ++ bytes in
      let h : length w ≡ r.at - r.from + length bytes = length-append (held s r) bytes ∙ ap (λ (m : ℕ). m + length bytes) (held-length s r l (omega arith)) in
      let q : put ≡ r.put + length w = omega arith in
      let t = length-take-le r.put out (omega arith) in
      let k : length (take r.put out ++ w) ≡ put = length-append (take r.put out) w ∙ omega arith in
      let f : after ≡ (take r.put out ++ w) ++ drop put out = e ∙ (sets-eq w out r.put (omega arith) ∙ rw (← q)) in
      let z : r.at + n - (r.at + n) ≡ 0 = omega arith in
      let a : take put after ≡ take r.put out ++ w = ap (take put) f ∙ take_at (take r.put out ++ w) (drop put out) put k in
      record {
        shows = rw (a, z) (append-nil (take r.put out ++ w) ∙ sym (append_assoc (take r.put out) (held s r) bytes));
        behind = ap (drop put) f ∙ drop_at (take r.put out ++ w) (drop put out) put k;
        onward = omega arith;
        passed = refl;
        lies = omega arith;
        count = omega arith;
      }
