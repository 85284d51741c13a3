-- What the definitions of a head and of a walk say once their tests are known: the refusal that comes first, or where the walk stands.
-- Assumes nothing.
use mathlib.Core.Path.{◌≡◌, ap, ◌∙◌}
use mathlib.Core.List.{List}
use mathlib.Core.Bool.{true, false}
use Prim.Native.Nat.{ℕ, suc, ◌+◌, ◌-◌, ◌<◌, ◌≤◌}
use native.Mathlib.Omega.{arith}
use lib.ListN.{length}
use lib.Dec.{ltb}
use borrow.Author.Tests.{lt-ltb, le-ltb, ne_eqb}
use Rattle.format.specs.Answer.{Refusal, missing, long, sequence, gives, refuses}
use Rattle.format.specs.Plp.{plp_bound, Walk, above_total, unlike_total, is_odd, end_of, chunk_of, length_at, take_head, walk_from, walk_chunks}
use Rattle.format.proofs.Chunks.{at_end, behind, walk-ended}

-- ---- a zero head

module _ (w : Walk) where
  pub end_unlike : unlike_total w.total w.sum ≡ true → end_of w ≡ refuses sequence
  unfolding end_of
  end_unlike u = rw u

  pub end-odd : unlike_total w.total w.sum ≡ false → is_odd w.text w.sum ≡ true → end_of w ≡ refuses sequence
  unfolding end_of
  end-odd u o = rw (u, o)

  pub end-taken : unlike_total w.total w.sum ≡ false → is_odd w.text w.sum ≡ false → end_of w ≡ gives (at_end w)
  unfolding end_of
  end-taken u o = rw (u, o)

-- ---- another head

module _ (s : List ℕ) (w : Walk) (n : ℕ) where
  pub chunk-long : ltb plp_bound (w.sum + n) ≡ true → chunk_of s w n ≡ refuses long
  unfolding chunk_of
  chunk-long b = rw b

  module _ (b : ltb plp_bound (w.sum + n) ≡ false) where
    pub chunk-above : above_total w.total (w.sum + n) ≡ true → chunk_of s w n ≡ refuses sequence
    unfolding chunk_of
    chunk-above t = rw (b, t)

    module _ (t : above_total w.total (w.sum + n) ≡ false) where
      pub chunk-missing : length s < w.at + 4 + n → chunk_of s w n ≡ refuses missing
      unfolding chunk_of
      chunk-missing h = rw (b, t, lt-ltb (length s) (w.at + 4 + n) h)

      pub chunk-taken : w.at + 4 + n ≤ length s → chunk_of s w n ≡ gives (behind w n)
      unfolding chunk_of
      chunk-taken h = rw (b, t, le-ltb (length s) (w.at + 4 + n) h)

-- ---- one head

module _ (s : List ℕ) (w : Walk) where
  pub head_missing : length s < w.at + 4 → take_head s w ≡ refuses missing
  unfolding take_head
  head_missing h = rw (lt-ltb (length s) (w.at + 4) h)

  pub head_zero : w.at + 4 ≤ length s → length_at s w.at ≡ 0 → take_head s w ≡ end_of w
  unfolding take_head
  head_zero h z = rw (le-ltb (length s) (w.at + 4) h, z)

  pub head_chunk : w.at + 4 ≤ length s → (n : ℕ) → n ≡ length_at s w.at → (n ≡ 0 → ⊥) → take_head s w ≡ chunk_of s w n
  unfolding take_head
  head_chunk h n e z = rw (le-ltb (length s) (w.at + 4) h, ← e, ne_eqb n 0 z)

-- ---- a walk that has taken k of the heads that it is allowed

module _ (allowed k : ℕ) (s : List ℕ) (w : Walk) where
  one_more : (a : ℕ) (x : Walk) → w.ended ≡ false → take_head s w ≡ gives x → walk_from (suc a) s w k ≡ walk_from a s x (k + 1)
  unfolding walk_from
  one_more a x d e = rw (e, d)

  pub walk_more : (x : Walk) → k < allowed → w.ended ≡ false → take_head s w ≡ gives x →
      walk_from (allowed - k) s w k ≡ walk_from (allowed - (k + 1)) s x (k + 1)
  walk_more x h d e =
      let m : allowed - k ≡ suc (allowed - (k + 1)) = omega arith in
      ap (λ (n : ℕ). walk_from n s w k) m ∙ one_more (allowed - (k + 1)) x d e

  pub walk_refused : (r : Refusal) → k < allowed → w.ended ≡ false → take_head s w ≡ refuses r → walk_from (allowed - k) s w k ≡ refuses r
  unfolding walk_from
  walk_refused r h d e = let m : allowed - k ≡ suc (allowed - (k + 1)) = omega arith in rw (m, e, d)

  pub walk_stays : w.ended ≡ true → walk_from (allowed - k) s w k ≡ gives (record { walk = w; taken = k })
  walk_stays d = walk-ended s (allowed - k) w k d

  pub walk_spent : k ≤ allowed → allowed ≤ k → walk_from (allowed - k) s w k ≡ gives (record { walk = w; taken = allowed })
  unfolding walk_from
  walk_spent m h =
      let z : allowed - k ≡ 0 = omega arith in
      let t : k ≡ allowed = omega arith in
      rw (z, t)

-- "A place behind the input's end is 1 before anything else."
module _ (allowed : ℕ) (s : List ℕ) (w : Walk) where
  pub walk_behind_lem : length s < w.at → walk_chunks allowed s w ≡ refuses missing
  unfolding walk_chunks
  walk_behind_lem h = rw (lt-ltb (length s) w.at h)

  pub walk_inside : w.at ≤ length s → walk_chunks allowed s w ≡ walk_from allowed s w 0
  unfolding walk_chunks
  walk_inside h = rw (le-ltb (length s) w.at h)
