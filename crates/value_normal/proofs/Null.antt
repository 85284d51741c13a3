-- A PLP null is its eight bytes as they came: they stand for the number that says null, so they are that number's bytes.
-- Assumes nothing.
use Rattle.std.specs.Prelude.{None, Option}
use mathlib.Core.Path.{◌≡◌, refl, sym, ap, ◌∙◌}
use mathlib.Core.Bool.{Bool}
use mathlib.Core.List.{List}
use Prim.Native.Nat.{ℕ, ◌+◌, ◌≤◌}
use lib.Dec.{eqb, ltb}
use lib.ListN.{length, take, drop}
use lib.Seq.{length-take-le}
use borrow.Author.Tests.{ltb-false, eqb-true}
use Rattle.lists.proofs.Split.{split, clash}
use Rattle.format.specs.Answer.{Refusal, Answer, gives, refuses, missing, long, Read, took, stops, map_read}
use Rattle.format.specs.Number.{low_nat, low_bytes, read_low}
use Rattle.format.specs.Plp.{
  plp_bound,
  plp_null,
  plp_unknown,
  PlpHead,
  is_null,
  chunked,
  head_of,
  read_plp_head,
  Walk,
  Walked,
  opened,
  walk_from,
  joined_of,
  read_chunks,
}
use Rattle.format.specs.Plp.{read_plp, plp_bytes}
use Rattle.format.proofs.Number.{Bytes, low_forth}
use Rattle.format.proofs.Place.{past, no_took, then_took}
use Rattle.format.proofs.Plain.{bytes_take, bytes_drop}
use Rattle.plp_join.specs.Told.{counted}
use Rattle.plp_join.proofs.Joining.{counted-null, counted-stops}
use Rattle.value_normal.specs.declared.Run.{Run}
use Rattle.value_normal.specs.Runs.{RunFits, RunGrows}
use Rattle.value_normal.proofs.Growing.{grows_same}

-- eight bytes that say null
head_null : (n : ℕ) (s : List ℕ) (m : ℕ) → head_of n s ≡ took is_null m → n ≡ plp_null
head_null n s m h =
    split (eqb n plp_null) (λ t _. eqb-true n plp_null t)
    (λ _ e. split (eqb n plp_unknown) (λ _ q. clash cc) (λ _ q. clash (let p = past (ltb plp_bound n) long _ is_null m q in cc p.1)) e) h

low_eight : (s : List ℕ) (n m : ℕ) → Bytes s → read_low 8 s ≡ took n m → low_bytes 8 n ≡ take 8 s
unfolding read_low
low_eight s n m b h =
    let p = past (ltb (length s) 8) missing (took (low_nat (take 8 s)) 8) n m h in
    let e : low_nat (take 8 s) ≡ n = cc p.1 in
    let l = length-take-le 8 s (ltb-false (length s) 8 p.0) in
    ap (low_bytes 8) (sym e) ∙ (rw l at (low_forth (take 8 s) (bytes_take 8 s b)))

head_bytes : (s : List ℕ) (m : ℕ) → Bytes s → read_plp_head s ≡ took is_null m → low_bytes 8 plp_null ≡ take 8 s
unfolding read_plp_head
head_bytes s m b h =
    let t = then_took (read_low 8) head_of s is_null m h in
    ap (low_bytes 8) (sym (head_null t.0 (drop t.1 s) t.2 t.4)) ∙ low_eight s t.0 t.1 b t.3

module _ (text : Bool) (s : List ℕ) (n : ℕ) (b : Bytes s) where
  never_null : (w : Walk) (r : Answer Walked) → joined_of s w r ≡ took None n → low_bytes 8 plp_null ≡ take 8 s
  never_null w (gives x) e = clash cc
  never_null w (refuses d) e = no_took d None n e

  of_head : (h : Read PlpHead) → read_plp_head s ≡ h → read_chunks text s h ≡ took None n → low_bytes 8 plp_null ≡ take 8 s
  of_head (took is_null m) p e = head_bytes s m b p
  of_head (took (chunked total) m) p e = never_null (opened total text) (walk_from (length s + 1) s (opened total text) 0) e
  of_head (stops d) p e = no_took d None n e

  null-bytes : read_plp text s ≡ took None n → plp_bytes None ≡ take 8 s
  unfolding read_plp plp_bytes
  null-bytes h = of_head (read_plp_head s) refl h

-- a null that was judged lengthens the run
module _ (text : Bool) (s out : List ℕ) (run : Run) (b : Bytes s) where
  abbrev rest : List ℕ
  rest = drop run.at s

  abbrev normal : Read (List ℕ)
  normal = map_read plp_bytes (read_plp text rest)

  null-normal : map_read counted (read_plp text rest) ≡ took None 8 → normal ≡ took (take 8 rest) 8
  null-normal j =
      let e = counted-null (read_plp text rest) 8 j in
      ap (map_read plp_bytes) e ∙ ap (λ (l : List ℕ). took l 8) (null-bytes text rest 8 (bytes_drop run.at s b) e)

  module _ (j : map_read counted (read_plp text rest) ≡ took None 8) (f : RunFits s (length out) run normal) where
    pub null-inside : run.at + 8 ≤ length s
    null-inside = (rw (null-normal j) at f).1

    pub null_grows : RunGrows s out run normal out (record { from = run.from; at = run.at + 8; put = run.put })
    null_grows = rw (null-normal j) (grows_same s out run 8 (rw (null-normal j) at f).0 null-inside)

-- a value that fits was not refused
pub not_refused : {P : Type 0} (s : List ℕ) (size : ℕ) (run : Run) (r : Read (Option (List ℕ))) (e : Refusal) → map_read counted r ≡ stops e
    → RunFits s size run (map_read plp_bytes r) → P
not_refused s size run r e h f = let q = counted-stops r e h in absurd (rw q at f)
