-- The column of a record that has one of the common forms, and so its descriptor's bytes.
-- Assumes nothing.
use Rattle.std.specs.Prelude.{None, Some}
use mathlib.Core.Path.{◌≡◌, refl, sym, ap, subst, ◌∙◌}
use mathlib.Core.Bool.{true, false}
use mathlib.Core.List.{List, [], ◌∷◌, ◌++◌, append-nil}
use Prim.Native.Nat.{ℕ, zero, suc, ◌+◌, ◌*◌, ◌^◌, ◌<◌, ◌≤◌}
use native.Mathlib.Omega.{arith}
use lib.Dec.{eqb, ltb}
use lib.ListN.{length, get_or, take, drop}
use lib.Seq.{sets}
use borrow.Author.Tests.{le-leb, lt-ltb, le-ltb, ne_eqb}
use Rattle.lists.proofs.Front.{sets-front}
use Rattle.format.specs.Answer.{Answer, gives}
use Rattle.format.specs.Number.{low_nat, low_bytes}
use Rattle.format.specs.Descriptor.{TypeId, FixedLen, fixed_len, type_of, has_digits, has_collation, Collation, Schema, write_column}
use Rattle.format.proofs.DescriptorForm.{Form, column, form-written, type_byte_lem}
use Rattle.wire.proofs.Writing.{Leaves, has_room}
use Rattle.packed.specs.Packed.{info_at, keeps_places, column_of}
use Rattle.record_write.specs.Told.{length_at, head_at, tail_at, IsBare, IsText, Written}

-- ---- a record of 16 bytes, byte by byte

sixteen : (P : List ℕ → Type 0) →
    ((x0 x1 x2 x3 x4 x5 x6 x7 x8 x9 x10 x11 x12 x13 x14 x15 : ℕ) (rest : List ℕ) →
    P (x0 ∷ x1 ∷ x2 ∷ x3 ∷ x4 ∷ x5 ∷ x6 ∷ x7 ∷ x8 ∷ x9 ∷ x10 ∷ x11 ∷ x12 ∷ x13 ∷ x14 ∷ x15 ∷ rest)) →
    (r : List ℕ) → 16 ≤ length r → P r
sixteen P f (x0 ∷ x1 ∷ x2 ∷ x3 ∷ x4 ∷ x5 ∷ x6 ∷ x7 ∷ x8 ∷ x9 ∷ x10 ∷ x11 ∷ x12 ∷ x13 ∷ x14 ∷ x15 ∷ rest) h =
    f x0 x1 x2 x3 x4 x5 x6 x7 x8 x9 x10 x11 x12 x13 x14 x15 rest
sixteen P f (x0 ∷ x1 ∷ x2 ∷ x3 ∷ x4 ∷ x5 ∷ x6 ∷ x7 ∷ x8 ∷ x9 ∷ x10 ∷ x11 ∷ x12 ∷ x13 ∷ x14 ∷ []) h = absurd (omega (arith, h))
sixteen P f (x0 ∷ x1 ∷ x2 ∷ x3 ∷ x4 ∷ x5 ∷ x6 ∷ x7 ∷ x8 ∷ x9 ∷ x10 ∷ x11 ∷ x12 ∷ x13 ∷ []) h = absurd (omega (arith, h))
sixteen P f (x0 ∷ x1 ∷ x2 ∷ x3 ∷ x4 ∷ x5 ∷ x6 ∷ x7 ∷ x8 ∷ x9 ∷ x10 ∷ x11 ∷ x12 ∷ []) h = absurd (omega (arith, h))
sixteen P f (x0 ∷ x1 ∷ x2 ∷ x3 ∷ x4 ∷ x5 ∷ x6 ∷ x7 ∷ x8 ∷ x9 ∷ x10 ∷ x11 ∷ []) h = absurd (omega (arith, h))
sixteen P f (x0 ∷ x1 ∷ x2 ∷ x3 ∷ x4 ∷ x5 ∷ x6 ∷ x7 ∷ x8 ∷ x9 ∷ x10 ∷ []) h = absurd (omega (arith, h))
sixteen P f (x0 ∷ x1 ∷ x2 ∷ x3 ∷ x4 ∷ x5 ∷ x6 ∷ x7 ∷ x8 ∷ x9 ∷ []) h = absurd (omega (arith, h))
sixteen P f (x0 ∷ x1 ∷ x2 ∷ x3 ∷ x4 ∷ x5 ∷ x6 ∷ x7 ∷ x8 ∷ []) h = absurd (omega (arith, h))
sixteen P f (x0 ∷ x1 ∷ x2 ∷ x3 ∷ x4 ∷ x5 ∷ x6 ∷ x7 ∷ []) h = absurd (omega (arith, h))
sixteen P f (x0 ∷ x1 ∷ x2 ∷ x3 ∷ x4 ∷ x5 ∷ x6 ∷ []) h = absurd (omega (arith, h))
sixteen P f (x0 ∷ x1 ∷ x2 ∷ x3 ∷ x4 ∷ x5 ∷ []) h = absurd (omega (arith, h))
sixteen P f (x0 ∷ x1 ∷ x2 ∷ x3 ∷ x4 ∷ []) h = absurd (omega (arith, h))
sixteen P f (x0 ∷ x1 ∷ x2 ∷ x3 ∷ []) h = absurd (omega (arith, h))
sixteen P f (x0 ∷ x1 ∷ x2 ∷ []) h = absurd (omega (arith, h))
sixteen P f (x0 ∷ x1 ∷ []) h = absurd (omega (arith, h))
sixteen P f (x0 ∷ []) h = absurd (omega (arith, h))
sixteen P f [] h = absurd (omega (arith, h))

-- ---- its places

-- flags, precision and scale, of which only a flag is there
abbrev Head : ℕ → List ℕ → Type 0
Head k r = head_at r ≡ k → (get_or r 1 0 ≡ k) × (get_or r 2 0 ≡ 0) × (get_or r 3 0 ≡ 0)

head : (k : ℕ) → k ≤ 1 → (r : List ℕ) → 16 ≤ length r → Head k r
head k b r l = sixteen (Head k) go r l
  where
    go : (x0 x1 x2 x3 x4 x5 x6 x7 x8 x9 x10 x11 x12 x13 x14 x15 : ℕ) (rest : List ℕ) →
        Head k (x0 ∷ x1 ∷ x2 ∷ x3 ∷ x4 ∷ x5 ∷ x6 ∷ x7 ∷ x8 ∷ x9 ∷ x10 ∷ x11 ∷ x12 ∷ x13 ∷ x14 ∷ x15 ∷ rest)
    go x0 x1 x2 x3 x4 x5 x6 x7 x8 x9 x10 x11 x12 x13 x14 x15 rest h = (omega (arith, h, b), omega (arith, h, b), omega (arith, h, b))

-- no flag: nothing is used, and everything behind the length is 0
abbrev Unflagged : List ℕ → Type 0
Unflagged r = 16 ≤ length r → get_or r 1 0 ≡ 0 → tail_at r ≡ 0 → keeps_places r ≡ true

unflagged : (r : List ℕ) → 16 ≤ length r → Unflagged r
unfolding keeps_places
unflagged r l = sixteen Unflagged go r l
  where
    go : (x0 x1 x2 x3 x4 x5 x6 x7 x8 x9 x10 x11 x12 x13 x14 x15 : ℕ) (rest : List ℕ) →
        Unflagged (x0 ∷ x1 ∷ x2 ∷ x3 ∷ x4 ∷ x5 ∷ x6 ∷ x7 ∷ x8 ∷ x9 ∷ x10 ∷ x11 ∷ x12 ∷ x13 ∷ x14 ∷ x15 ∷ rest)
    go x0 x1 x2 x3 x4 x5 x6 x7 x8 x9 x10 x11 x12 x13 x14 x15 rest l f t =
        let c : x8 + 256 * (x9 + 256 * (x10 + 256 * (x11 + 256 * (x12 + 256 * 0)))) ≡ 0 = omega (arith, t) in
        let z : x13 ≡ 0 = omega (arith, t) in
        let i : x14 + 256 * (x15 + 256 * 0) ≡ 0 = omega (arith, t) in
        rw (le-leb 16 _ l, f, c, z, i)

-- the flag of a collation: what stands behind it is 0
abbrev Collated : List ℕ → Type 0
Collated r = 16 ≤ length r → get_or r 1 0 ≡ 1 → low_nat (take 3 (drop 13 r)) ≡ 0 → keeps_places r ≡ true

collated : (r : List ℕ) → 16 ≤ length r → Collated r
unfolding keeps_places
collated r l = sixteen Collated go r l
  where
    go : (x0 x1 x2 x3 x4 x5 x6 x7 x8 x9 x10 x11 x12 x13 x14 x15 : ℕ) (rest : List ℕ) →
        Collated (x0 ∷ x1 ∷ x2 ∷ x3 ∷ x4 ∷ x5 ∷ x6 ∷ x7 ∷ x8 ∷ x9 ∷ x10 ∷ x11 ∷ x12 ∷ x13 ∷ x14 ∷ x15 ∷ rest)
    go x0 x1 x2 x3 x4 x5 x6 x7 x8 x9 x10 x11 x12 x13 x14 x15 rest l f t =
        let z : x13 ≡ 0 = omega (arith, t) in
        let i : x14 + 256 * (x15 + 256 * 0) ≡ 0 = omega (arith, t) in
        rw (le-leb 16 _ l, f, z, i)

-- ---- its column

module _ (r : List ℕ) (names : Schema) (t : TypeId) (e : type_of (get_or r 0 0) ≡ gives t) (k : keeps_places r ≡ true) where
  unflagged_column : get_or r 1 0 ≡ 0 → column_of r names ≡ column t (length_at r) (get_or r 2 0) (get_or r 3 0) None None
  unfolding column_of
  unflagged_column f = rw (k, e, f)

  abbrev collation : Collation
  collation = record { info = info_at r; sort = get_or r 12 0 }

  collated_column : get_or r 1 0 ≡ 1 → column_of r names ≡ column t (length_at r) (get_or r 2 0) (get_or r 3 0) (Some collation) None
  unfolding column_of
  collated_column f = rw (k, e, f)

-- ---- its descriptor

-- a type without a length has one of no bytes
pub fixed-form : (f : FixedLen) → Form (fixed_len f) 0
fixed-form f = record { width = refl; fits = none_fits; described = refl; bare = refl }
  where
    none_fits : (n : ℕ) → eqb n 0 ≡ ltb n (256 ^ 0)
    none_fits zero = refl
    none_fits (suc n) = ne_eqb (suc n) 0 (λ h. omega (arith, h)) ∙ sym (le-ltb (suc n) 1 (omega arith))

module _ (r : List ℕ) (l : 16 ≤ length r) (t : TypeId) (e : type_of (get_or r 0 0) ≡ gives t) (w : ℕ) (f : Form t w) where
  pub bare-written : has_digits t ≡ false → has_collation t ≡ false → IsBare r (256 ^ w) → (names : Schema) →
      write_column (column_of r names) ≡ gives (get_or r 0 0 ∷ low_bytes w (length_at r))
  bare-written d c b names =
      let h = head 0 (omega arith) r l b.0 in
      let is = unflagged_column r names t e (unflagged r l l h.0 b.1) h.0 in
      let wr = form-written t w f (length_at r) (get_or r 2 0) (get_or r 3 0) None b.2 (rw (d, h.1, h.2)) (rw c) in
      ap write_column is ∙ (wr ∙ rw (d, type_byte_lem (get_or r 0 0) t e, append-nil (low_bytes w (length_at r))))

  pub digits_written : has_digits t ≡ true → has_collation t ≡ false → get_or r 1 0 ≡ 0 → tail_at r ≡ 0 → length_at r < 256 ^ w →
      get_or r 2 0 < 256 → get_or r 3 0 < 256 → (names : Schema)
      → write_column (column_of r names) ≡ gives (get_or r 0 0 ∷ (low_bytes w (length_at r) ++ (get_or r 2 0 ∷ get_or r 3 0 ∷ [])))
  digits_written d c g z n p x names =
      let is = unflagged_column r names t e (unflagged r l l g z) g in
      let wr = form-written t w f (length_at r) (get_or r 2 0) (get_or r 3 0) None n (rw (d, lt-ltb (get_or r 2 0) 256 p, lt-ltb (get_or r 3 0) 256 x))
      (rw c) in
      ap write_column is ∙ (wr ∙ rw (d, type_byte_lem (get_or r 0 0) t e))

  pub text-written : has_digits t ≡ false → has_collation t ≡ true → IsText r → length_at r < 256 ^ w → info_at r < 256 ^ 4 → get_or r 12 0 < 256 →
      (names : Schema) → write_column (column_of r names) ≡ gives
      (get_or r 0 0 ∷ (low_bytes w (length_at r) ++ (low_bytes 4 (info_at r) ++ (get_or r 12 0 ∷ []))))
  text-written d c b n i s names =
      let h = head 1 (omega arith) r l b.0 in
      let k = collated r l l h.0 b.1 in
      let is = collated_column r names t e k h.0 in
      let wr = form-written t w f (length_at r) (get_or r 2 0) (get_or r 3 0) (Some (collation r names t e k)) n (rw (d, h.1, h.2))
      (rw (c, lt-ltb (info_at r) (256 ^ 4) i, lt-ltb (get_or r 12 0) 256 s)) in
      ap write_column is ∙ (wr ∙ rw (d, type_byte_lem (get_or r 0 0) t e))

-- ---- what a writer of a form leaves

module _ (r out : List ℕ) where
  pub written : (new bytes : List ℕ) (n : ℕ) → length bytes ≡ n → n ≤ length out → ((names : Schema) → write_column (column_of r names) ≡ gives bytes) →
      new ≡ sets out 0 bytes → Written r out new (Some n)
  written new bytes n e l is s =
      let k : length bytes ≤ length out = omega arith in
      let p = has_room bytes out n e k in
      let q : Leaves (gives n) new (gives bytes) out = (p.0, s ∙ (sets-front out bytes k ∙ p.1)) in
      λ names. subst (λ (a : Answer (List ℕ)). Leaves (gives n) new a out) (sym (is names)) q

-- ---- stores one behind another are one run of stores

pub digits_stored : (out a b c new : List ℕ) (x p s n m : ℕ) → a ≡ sets out 0 (x ∷ []) → m ≡ n → b ≡ sets a 1 (low_bytes 1 m) → c ≡ sets b 2 (p ∷ []) →
    new ≡ sets c 3 (s ∷ []) → new ≡ sets out 0 (x ∷ (low_bytes 1 n ++ (p ∷ s ∷ [])))
digits_stored out a b c new x p s n m e f g h i = rw (i, h, g, f, e)

pub text_stored : (out a b c new : List ℕ) (x y n m i j : ℕ) → a ≡ sets out 0 (x ∷ []) → m ≡ n → b ≡ sets a 1 (low_bytes 2 m) → j ≡ i →
    c ≡ sets b 3 (low_bytes 4 j) → new ≡ sets c 7 (y ∷ []) → new ≡ sets out 0 (x ∷ (low_bytes 2 n ++ (low_bytes 4 i ++ (y ∷ []))))
text_stored out a b c new x y n m i j e f g h k l = rw (l, k, h, g, f, e)
