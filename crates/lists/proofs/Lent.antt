-- What a slice holds when a part of it, lent to a call from o on, is back.
-- Assumes nothing.
use Prim.Native.Nat.{ℕ, ◌+◌, ◌-◌, ◌≤◌}
use mathlib.Core.Path.{◌≡◌, sym, ap, ◌∙◌}
use mathlib.Core.List.{List, [], ◌++◌, append-nil}
use native.Mathlib.Omega.{arith}
use lib.ListN.{length, take, drop, length-drop, drop_of_length-le}
use lib.Seq.{take_all, drop-drop, sets}
use borrow.Rule.Slice.PartMut.{put_mid, mid_of, post_of}
use Rattle.lists.specs.Put.{put_at}
use Rattle.lists.proofs.Front.{sets_put}

-- the part is what stands from o on
pub rest_is : (out : List ℕ) (o : ℕ) → mid_of o (length out - o) out ≡ drop o out
rest_is out o = take_all (length out - o) (drop o out) (simp length-drop (omega arith))

-- whatever the callee left there stands behind what was before o
pub lent_rest : (out ys : List ℕ) (o : ℕ) → put_mid o (length out - o) out ys ≡ take o out ++ ys
lent_rest out ys o =
    let z : post_of o (length out - o) out ≡ [] = drop_of_length-le (drop o out) {i = length out - o} (simp length-drop (omega arith)) in
    simp (z, append-nil)

-- a callee that wrote c at the part's front and kept what stands behind it
pub lent_back : (out : List ℕ) (o : ℕ) (c : List ℕ) → put_mid o (length out - o) out (c ++ drop (length c) (mid_of o (length out - o) out)) ≡ put_at out o c
unfolding put_at
lent_back out o c = lent_rest out (c ++ drop (length c) (mid_of o (length out - o) out)) o ∙ simp (rest_is out o, drop-drop (length c) o out)

pub lent_put : (out ys : List ℕ) (o : ℕ) (c : List ℕ) → ys ≡ c ++ drop (length c) (mid_of o (length out - o) out) →
    put_mid o (length out - o) out ys ≡ put_at out o c
lent_put out ys o c e = ap (put_mid o (length out - o) out) e ∙ lent_back out o c

-- a part that was lent and is back, filled, is a run of stores
pub lent_sets : (out ys : List ℕ) (a n : ℕ) → a + n ≤ length out → length ys ≡ n → put_mid a n out ys ≡ sets out a ys
unfolding put_at
lent_sets out ys a n h e = rw (drop-drop n a out, ← e) (sym (sets_put out a ys (omega arith)))
