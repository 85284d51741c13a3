-- Content in its form, filled into room of the form's size: the stores in their order are one run, the form's bytes.
-- Assumes nothing.
use Rattle.std.specs.Prelude.{None, Option, Some}
use mathlib.Core.Path.{◌≡◌, refl, sym, ap, ◌∙◌}
use mathlib.Core.Bool.{Bool, true, false, not}
use mathlib.Core.List.{List, [], ◌++◌}
use Prim.Native.Nat.{ℕ, suc, ◌+◌, ◌-◌, ◌≤◌}
use native.Mathlib.Omega.{arith}
use native.Mathlib.Nat.{zero-add}
use lib.ListN.{length, length-append}
use lib.Dec.{eqb, leb, ltb}
use lib.Seq.{sets, length-sets}
use borrow.Author.Tests.{ltb-true, ltb-false}
use borrow.Rule.Slice.PartMut.{put_mid}
use Rattle.lists.proofs.Split.{clash}
use Rattle.lists.proofs.Front.{sets_then}
use Rattle.format.specs.Answer.{Answer, gives, refuses, missing, kind, long, not_carried, and_then, wrote, Part, part}
use Rattle.format.specs.Number.{low_bytes}
use Rattle.format.specs.Plp.{plp_mark}
use Rattle.format.specs.Value.{ContentKind, Family, fixed_width, length_byte, content, content_bound, write_family, write_untyped}
use Rattle.value_kind.specs.Form.{given_of, encoded_part, formed, in_form, framed, short_up_to, untyped_head, untyped_limit}
use Rattle.value_kind.proofs.ContentLaws.{no_fixed, no_listed, content-framed, span-outside, untyped_span}
use Rattle.wire.proofs.Writing.{not_refused, check_passed, count_is, filled}
use Rattle.lists.proofs.Lent.{lent_sets}

-- ---- what is in a form has content

pub form-content : (plp : Bool) (a : Answer (List ℕ)) (n : ℕ) → gives n ≡ wrote (in_form plp a) → (c : List ℕ) × (a ≡ gives c) × (n ≡ length (formed plp c))
form-content plp (gives c) n h = (c, refl, count_is (in_form plp (gives c)) n (formed plp c) h refl)
form-content plp (refuses e) n h = not_refused e n h

gives-count : (a : Answer (List ℕ)) (c : List ℕ) (n : ℕ) → a ≡ gives c → n ≡ length c → gives n ≡ wrote a
unfolding wrote
gives-count a c n e l = rw (e, l)

-- ---- the short form

module _ (a : Answer (List ℕ)) (n : ℕ) (h : gives n ≡ wrote (in_form false a)) where
  pub short-room : (2 ≤ n) × (gives (n - 2) ≡ wrote a)
  short-room =
      let f = form-content false a n h in
      let l : n ≡ suc (suc (length f.0)) = f.2 in
      (omega arith, gives-count a f.0 (n - 2) f.1 (omega arith))

pub short-filled : (a : Answer (List ℕ)) (out one ys new : List ℕ) → gives (length out) ≡ wrote (in_form false a) →
    one ≡ sets out 0 (low_bytes 2 (length out - 2)) → gives ys ≡ a
    → new ≡ put_mid 2 (length one - 2) one ys → gives new ≡ in_form false a
short-filled a out one ys new h w e s =
    let r = short-room a (length out) h in
    let l = count_is a (length out - 2) ys r.1 (sym e) in
    let n = length out - 2 in
    let z : length one ≡ length out = ap length w ∙ length-sets out 0 (low_bytes 2 n) in
    let p = lent_sets one ys 2 (length one - 2) (omega (arith, z, r.0)) (omega (arith, z, l)) in
    filled (in_form false a) out new (low_bytes 2 (length ys) ++ ys) h (rw (← e))
    (s ∙ (p ∙ (ap (λ (x : List ℕ). sets x 2 ys) w ∙ (sets_then out 0 2 (low_bytes 2 n) ys refl ∙ ap (λ (m : ℕ). sets out 0 (low_bytes 2 m ++ ys)) l))))

-- ---- behind a head

abbrev pub headed : List ℕ → Bool → Answer (List ℕ) → Answer (List ℕ)
headed head plp a = and_then a (λ c. gives (head ++ formed plp c))

-- what is within its bound
framed-written : (head : List ℕ) (plp : Bool) (bound : ℕ) (a : Answer (List ℕ)) (n : ℕ) → gives n ≡ wrote (and_then a (framed head plp bound)) →
    and_then a (framed head plp bound) ≡ headed head plp a
unfolding framed
framed-written head plp bound (gives c) n h = check_passed (ltb bound (length c)) long (gives (head ++ formed plp c)) n h
framed-written head plp bound (refuses e) n h = refl

pub head_room : (head : List ℕ) (plp : Bool) (a : Answer (List ℕ)) (n : ℕ) → gives n ≡ wrote (headed head plp a) →
    (length head ≤ n) × (gives (n - length head) ≡ wrote (in_form plp a))
head_room head plp (gives c) n h =
    let l : n ≡ length head + length (formed plp c) =
    count_is (headed head plp (gives c)) n (head ++ formed plp c) h refl ∙ length-append head (formed plp c) in
    (omega arith, gives-count (in_form plp (gives c)) (formed plp c) (n - length head) refl (omega arith))
head_room head plp (refuses e) n h = not_refused e n h

with_head : (head : List ℕ) (plp : Bool) (a : Answer (List ℕ)) (ys : List ℕ) → gives ys ≡ in_form plp a → headed head plp a ≡ gives (head ++ ys)
with_head head plp (gives c) ys e = let z : ys ≡ formed plp c = cc in rw z
with_head head plp (refuses r) ys e = clash cc

pub head_filled : (head : List ℕ) (plp : Bool) (a : Answer (List ℕ)) (out one ys new : List ℕ) (m : ℕ) →
    gives (length out) ≡ wrote (headed head plp a) → m ≡ length head → one ≡ sets out 0 head → gives ys ≡ in_form plp a
    → new ≡ put_mid m (length one - m) one ys → gives new ≡ headed head plp a
head_filled head plp a out one ys new m h i w e s =
    let r = head_room head plp a (length out) h in
    let l = count_is (in_form plp a) (length out - length head) ys r.1 (sym e) in
    let z : length one ≡ length out = ap length w ∙ length-sets out 0 head in
    let p = lent_sets one ys m (length one - m) (omega (arith, z, r.0)) (omega (arith, z, l)) in
    filled (headed head plp a) out new (head ++ ys) h (with_head head plp a ys e)
    (s ∙ (p ∙ (ap (λ (x : List ℕ). sets x m ys) w ∙ sets_then out 0 m head ys (i ∙ sym (zero-add (length head))))))

-- ---- under a family, and without a type

module _ (d : ℕ) (p : Part) (n : ℕ) where
  kept-form : (k : ContentKind) → gives n ≡ wrote (write_family d (Some (content k)) (given_of k p)) →
      write_family d (Some (content k)) (given_of k p) ≡ in_form (eqb d plp_mark) (encoded_part k p)
  kept-form k h = let e = content-framed d k p in e ∙ framed-written [] (eqb d plp_mark) (content_bound d) (encoded_part k p) n (h ∙ ap wrote e)

  pub content-written : (f : Option Family) (k : ContentKind) → gives n ≡ wrote (write_family d f (given_of k p)) →
      write_family d f (given_of k p) ≡ in_form (eqb d plp_mark) (encoded_part k p)
  content-written None k h = not_refused not_carried n h
  content-written (Some (fixed_width w)) k h = not_refused kind n (h ∙ ap wrote (no_fixed d p w k))
  content-written (Some (length_byte ws)) k h = not_refused kind n (h ∙ ap wrote (no_listed d p ws k))
  content-written (Some (content ContentKind.binary)) ContentKind.binary h = kept-form ContentKind.binary h
  content-written (Some (content ContentKind.binary)) ContentKind.string h = not_refused kind n h
  content-written (Some (content ContentKind.string)) ContentKind.binary h = not_refused kind n h
  content-written (Some (content ContentKind.string)) ContentKind.string h = kept-form ContentKind.string h

module _ (buffer : List ℕ) (start count n : ℕ) (k : ContentKind) where
  pub span-lies : (plp : Bool) → gives n ≡ wrote (in_form plp (encoded_part k (part buffer start count))) → start + count ≤ length buffer
  span-lies plp h = go (ltb (length buffer) (start + count)) refl
    where
      go : (t : Bool) → ltb (length buffer) (start + count) ≡ t → start + count ≤ length buffer
      go true e =
          let o = span-outside buffer start count (ltb-true (length buffer) (start + count) e) in
          not_refused missing n (rw o at h)
      go false e = ltb-false (length buffer) (start + count) e

  pub untyped_written : (short : Bool) → short ≡ leb count (short_up_to k) → gives n ≡ wrote (write_untyped (given_of k (part buffer start count))) →
      write_untyped (given_of k (part buffer start count)) ≡ headed (untyped_head k short) (not short) (encoded_part k (part buffer start count))
  untyped_written short i h =
      let e :
      write_untyped (given_of k (part buffer start count))
      ≡ and_then (encoded_part k (part buffer start count)) (framed (untyped_head k short) (not short) (untyped_limit short)) =
      rw i (untyped_span buffer start count k) in
      e ∙ framed-written (untyped_head k short) (not short) (untyped_limit short) (encoded_part k (part buffer start count)) n (h ∙ ap wrote e)
