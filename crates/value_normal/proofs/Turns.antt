-- A value's turn by its form: bytes that are the normal form already lengthen the run; of a bit above 1 the bytes before it are the run's, and a 1 is stored.
-- Assumes nothing.
use mathlib.Core.Path.{◌≡◌, sym, ap, ◌∙◌, subst}
use mathlib.Core.List.{List, [], ◌∷◌, ◌++◌, append_assoc}
use Prim.Native.Nat.{ℕ, ◌+◌, ◌-◌, ◌<◌, ◌≤◌}
use native.Mathlib.Omega.{arith}
use lib.ListN.{length, take, drop, length-append, length-drop}
use lib.Seq.{length-take-le, sets}
use Rattle.format.specs.Answer.{Read, took, stops}
use Rattle.value_form.specs.Told.{IsRead}
use Rattle.value_normal.specs.declared.Run.{Run}
use Rattle.value_normal.specs.Runs.{held, run_on, RunFits, RunGrows}
use Rattle.value_normal.proofs.Growing.{held_more, grows_same, grows_put}

-- a value that fits is there
pub fits_read : (s : List ℕ) (size : ℕ) (run : Run) (v : Read (List ℕ)) → RunFits s size run v → IsRead v
fits_read s size run (took bytes n) f = tt
fits_read s size run (stops e) f = absurd f

module _ (s out : List ℕ) (run : Run) (v : Read (List ℕ)) (f : RunFits s (length out) run v) where
  abbrev rest : List ℕ
  rest = drop run.at s

  module _ (n : ℕ) (e : took (take n rest) n ≡ v) where
    same_fits : RunFits s (length out) run (took (take n rest) n)
    same_fits = rw (← e) at f

    pub same_inside : run.at + n ≤ length s
    same_inside = same_fits.1

    pub same_grows : RunGrows s out run v out (record { from = run.from; at = run.at + n; put = run.put })
    same_grows = rw (← e) (grows_same s out run n same_fits.0 same_inside)

  module _ (start : ℕ) (e : took (take start rest ++ (1 ∷ [])) (start + 1) ≡ v) where
    bit_fits : RunFits s (length out) run (took (take start rest ++ (1 ∷ [])) (start + 1))
    bit_fits = rw (← e) at f

    bit_length : length (take start rest ++ (1 ∷ [])) ≡ start + 1
    bit_length =
        let i = bit_fits.1 in
        length-append (take start rest) (1 ∷ []) ∙ ap (λ (k : ℕ). k + 1) (length-take-le start rest (omega (arith, length-drop run.at s)))

    -- what storing it asks
    pub bit_asks : (run.from ≤ run.at + start) × (run.at + start < length s) × (run.put + (run.at + start - run.from) + 1 ≤ length out)
    bit_asks = let g = bit_fits in (omega (arith, g.0), omega (arith, g.1), omega (arith, g.0, g.2, bit_length))

    pub bit_grows : (after : List ℕ) (next : Run) → next ≡ run_on (run.at + start + 1) (run.put + (run.at + start - run.from) + 1)
        → after ≡ sets out run.put (take (run.at + start - run.from) (drop run.from s) ++ (1 ∷ [])) → RunGrows s out run v after next
    bit_grows after next p q =
        let g = bit_fits in
        let bytes = take start rest ++ (1 ∷ []) in
        let h : take (run.at + start - run.from) (drop run.from s) ++ (1 ∷ []) ≡ held s run ++ bytes =
        ap (λ (x : List ℕ). x ++ (1 ∷ [])) (held_more s run.from run.at start g.0) ∙ append_assoc (held s run) (take start rest) (1 ∷ []) in
        let put : run.put + (run.at + start - run.from) + 1 ≡ run.put + (run.at - run.from) + length bytes = omega (arith, g.0, bit_length) in
        let at : run.at + start + 1 ≡ run.at + (start + 1) = omega arith in
        let r = grows_put s out run (start + 1) g.0 g.1 bytes after _ g.2 (q ∙ ap (sets out run.put) h) put in
        let same : run_on (run.at + (start + 1)) (run.put + (run.at + start - run.from) + 1) ≡ next = rw (← at) (sym p) in
        rw (← e) (subst (RunGrows s out run (took bytes (start + 1)) after) same r)
