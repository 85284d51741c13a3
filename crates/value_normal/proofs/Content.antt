-- What was judged of a PLP value, told of its normal form: content is put behind the run.
-- Assumes nothing.
use Rattle.std.specs.Prelude.{Option, Some}
use mathlib.Core.Path.{◌≡◌, sym, ap, ◌∙◌}
use mathlib.Core.Bool.{Bool}
use mathlib.Core.List.{List, ◌++◌}
use Prim.Native.Nat.{ℕ, ◌+◌, ◌-◌, ◌^◌, ◌<◌, ◌≤◌}
use native.Mathlib.Omega.{arith}
use lib.ListN.{length}
use lib.Seq.{sets, length-sets}
use borrow.Rule.Slice.PartMut.{put_mid}
use Rattle.lists.specs.Put.{put_at}
use Rattle.lists.proofs.Front.{sets_put, sets_then}
use Rattle.lists.proofs.Lent.{lent_sets}
use Rattle.format.specs.Answer.{Read, took, map_read}
use Rattle.format.specs.Plp.{read_plp, plp_bytes}
use Rattle.format.proofs.Number.{Bytes}
use Rattle.format.proofs.Plp.{bound-said}
use Rattle.format.proofs.Plp as Plps
use Rattle.plp_join.specs.Told.{counted, content_in}
use Rattle.plp_join.proofs.Joining.{Counted, counted-content}
use Rattle.value_normal.specs.declared.Run.{Run}
use Rattle.value_normal.specs.Runs.{held, run_on, RunFits, RunGrows}
use Rattle.value_normal.proofs.Growing.{held-length, grows_put}

-- ---- what was judged

-- content: what it is, and that its form fits behind the run
pub record ContentFits (s : List ℕ) (size : ℕ) (run : Run) (r : Read (Option (List ℕ))) (m n : ℕ) : Type 0 where
  pub counts : Counted r m n
  pub normal : map_read plp_bytes r ≡ took (plp_bytes (Some (content_in r))) n
  pub fits : RunFits s size run (took (plp_bytes (Some (content_in r))) n)

pub content_fits : (s : List ℕ) (size : ℕ) (run : Run) (r : Read (Option (List ℕ))) (m n : ℕ) → map_read counted r ≡ took (Some m) n
    → RunFits s size run (map_read plp_bytes r) → ContentFits s size run r m n
content_fits s size run r m n h f =
    let c = counted-content r m n h in
    let e : map_read plp_bytes r ≡ took (plp_bytes (Some (content_in r))) n = ap (map_read plp_bytes) c.content in
    record { counts = c; normal = e; fits = rw e at f }

-- content is within the bound
pub content_small : (text : Bool) (s : List ℕ) (m n : ℕ) → Bytes s → Counted (read_plp text s) m n → m < 256 ^ 4
content_small text s m n b c = omega (arith, ((Plps.codec text).fits s (Some (content_in (read_plp text s))) n b c.content).0, c.long, bound-said)

-- the run, and the form behind it
pub content_grows : (s out one ys after : List ℕ) (run : Run) (r : Read (Option (List ℕ))) (m n o e : ℕ) → ContentFits s (length out) run r m n
    → one ≡ put_at out run.put (held s run) → o ≡ run.put + (run.at - run.from) → e ≡ o + length (plp_bytes (Some (content_in r)))
    → ys ≡ plp_bytes (Some (content_in r)) → after ≡ put_mid o (e - o) one ys → RunGrows s out run (map_read plp_bytes r) after (run_on (run.at + n) e)
content_grows s out one ys after run r m n o e c p q w y a =
    let bytes = plp_bytes (Some (content_in r)) in
    let f = c.fits in
    let i : run.at ≤ length s = omega (arith, f.1) in
    let l = held-length s run f.0 i in
    let room : run.put + length (held s run) ≤ length out = omega (arith, f.2) in
    let p' : one ≡ sets out run.put (held s run) = p ∙ sym (sets_put out run.put (held s run) room) in
    let z : length one ≡ length out = ap length p' ∙ length-sets out run.put (held s run) in
    let k : length ys ≡ e - o = ap length y ∙ omega arith in
    let t = lent_sets one ys o (e - o) (omega (arith, f.2)) k in
    let g : after ≡ sets out run.put (held s run ++ bytes) =
    a ∙ (t ∙ (ap (λ (x : List ℕ). sets one o x) y ∙ (ap (λ (x : List ℕ). sets x o bytes) p' ∙ sets_then out run.put o (held s run) bytes (omega arith)))) in
    rw c.normal (grows_put s out run n f.0 f.1 bytes after e f.2 g (omega arith))
