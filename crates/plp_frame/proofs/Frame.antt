-- The frame of PLP content: the stores leave the form of what stands between them, and content that is then put there stands in its own form.
-- Assumes nothing.
use Rattle.std.specs.Prelude.{Some}
use mathlib.Core.Path.{◌≡◌, refl, sym, ap, ◌∙◌}
use mathlib.Core.List.{List, [], ◌∷◌, ◌++◌, append-nil, append_assoc}
use Prim.Native.Nat.{ℕ, ◌+◌, ◌-◌, ◌<◌, ◌≤◌}
use native.Mathlib.Omega.{arith}
use lib.ListN.{length, take, drop, length-append, length-take, length-drop, drop_of_length-le}
use lib.Seq.{sets, sets-eq, length-sets, take-add, drop_at, length-take-le, drop-append_seam}
use borrow.Rule.Slice.PartMut.{put_mid, mid_of, mid_len}
use Rattle.lists.proofs.Front.{sets_then, sets-front}
use Rattle.format.specs.Number.{low_bytes}
use Rattle.format.specs.Plp.{plp_unknown, plp_bytes}
use Rattle.plp_frame.specs.Frame.{FormRoom, middle}

-- the eight bytes, and the last zero
abbrev head : List ℕ
head = low_bytes 8 plp_unknown

abbrev zeros : List ℕ
zeros = low_bytes 4 0

-- ---- the form

-- of empty content it has 12 bytes, of other content 16 more than the content
size_is : (c : List ℕ) → let n = length (plp_bytes (Some c)) in (12 ≤ n) × (n - 16 ≡ length c) × ((n - 4 ≡ 8 → ⊥) → 16 < n)
unfolding plp_bytes
size_is [] = (omega arith, refl, λ g. absurd (g refl))
size_is (b ∷ bs) =
    let l : length (plp_bytes (Some (b ∷ bs))) ≡ 16 + length (b ∷ bs) = simp length-append (omega arith) in
    (omega arith, omega arith, λ g. omega arith)

chunk_is : (c : List ℕ) → 0 < length c → plp_bytes (Some c) ≡ (head ++ low_bytes 4 (length c)) ++ (c ++ zeros)
unfolding plp_bytes
chunk_is [] h = absurd (omega arith)
chunk_is (b ∷ bs) h = refl

-- ---- the stores, in room of the form's size

module _ (out : List ℕ) (h : FormRoom out) where
  abbrev n : ℕ
  n = length out

  -- for the eight bytes and the last zero, and where there is content for its length too
  pub form-room : 12 ≤ n
  form-room = rw h.1 (size_is h.0).0

  pub chunk-room : (n - 4 ≡ 8 → ⊥) → 16 < n
  chunk-room = rw h.1 (size_is h.0).2

  pub middle-count : length (middle out) ≡ n - 16
  middle-count = let r = form-room in simp (length-take, length-drop) (omega arith)

  -- what stands from a on, once the last zero is put
  last_put : (a k : ℕ) → a + k ≡ n - 4 → drop a (sets out (n - 4) zeros) ≡ take k (drop a out) ++ zeros
  last_put a k e =
      let r = form-room in
      let z : drop (n - 4 + 4) out ≡ [] = drop_of_length-le out {i = n - 4 + 4} (omega arith) in
      let s : sets out (n - 4) zeros ≡ take a out ++ (take k (drop a out) ++ zeros) =
      sets-eq zeros out (n - 4) (omega arith) ∙ rw (z, append-nil, ← e, take-add, append_assoc) in
      ap (drop a) s ∙ drop_at (take a out) (take k (drop a out) ++ zeros) a (length-take-le a out (omega arith))

  pub none_framed : n - 4 ≡ 8 → sets (sets out (n - 4) zeros) 0 head ≡ plp_bytes (Some (middle out))
  unfolding plp_bytes
  none_framed g =
      let m : n - 16 ≡ 0 = omega arith in
      let l = length-sets out (n - 4) zeros in
      sets-front (sets out (n - 4) zeros) head (omega arith) ∙ rw (m, last_put 8 0 (sym g))

  pub chunk-framed : (n - 4 ≡ 8 → ⊥) → sets (sets (sets out (n - 4) zeros) 0 head) 8 (low_bytes 4 (n - 4 - 12)) ≡ plp_bytes (Some (middle out))
  chunk-framed g =
      let r = chunk-room g in
      let k = middle-count in
      let size = low_bytes 4 (n - 4 - 12) in
      let one = sets out (n - 4) zeros in
      let l = length-sets out (n - 4) zeros in
      let e : n - 4 - 12 ≡ length (middle out) = omega arith in
      sets_then one 0 8 head size refl ∙ (sets-front one (head ++ size) (omega arith)
      ∙ rw (last_put 12 (n - 16) (omega arith), e) (sym (chunk_is (middle out) (omega arith))))

-- ---- content put in the middle

-- over as many bytes
framed_put : (m ys : List ℕ) → length ys ≡ length m → put_mid 12 (length m) (plp_bytes (Some m)) ys ≡ plp_bytes (Some ys)
unfolding plp_bytes
framed_put [] [] e = refl
framed_put [] (y ∷ ys) e = absurd (omega arith)
framed_put (b ∷ bs) [] e = absurd (omega arith)
framed_put (b ∷ bs) (y ∷ ys) e = rw (e, drop-append_seam (b ∷ bs) zeros)

-- content that is put in the part behind the frame's front, in room of its form's size: the part lies inside, has the content's length, and once it is
-- filled the room is the content's form
module _ (c out one : List ℕ) (end : ℕ) (h : length out ≡ length (plp_bytes (Some c)))
    (f : (end ≡ 12 + length (middle out)) × (one ≡ plp_bytes (Some (middle out)))) where
  as_many : length (middle out) ≡ length c
  as_many = middle-count out (c, h) ∙ (ap (λ (n : ℕ). n - 16) h ∙ (size_is c).1)

  pub part_end : end ≤ length one
  part_end = rw f.1 (let s = size_is (middle out) in omega arith)

  pub part_count : length (mid_of 12 (end - 12) one) ≡ length c
  part_count = mid_len 12 end one part_end ∙ omega (arith, as_many, f.0)

  pub part_filled : (ys : List ℕ) → ys ≡ c → put_mid 12 (end - 12) one ys ≡ plp_bytes (Some c)
  part_filled ys y =
      let m : end - 12 ≡ length (middle out) = omega (arith, f.0) in
      rw (y, f.1, m) (framed_put (middle out) c (sym as_many))
