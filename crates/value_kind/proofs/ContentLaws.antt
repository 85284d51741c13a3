-- Binary and string content under a type and without one is content within a bound, in one of two forms, behind a head: the one path that the code takes.
-- Assumes nothing.
use Rattle.std.specs.Prelude.{Some}
use mathlib.Core.Path.{◌≡◌, refl, sym, ap, ◌∙◌}
use mathlib.Core.Bool.{Bool, true, false, not}
use mathlib.Core.List.{List, [], ◌∷◌}
use Prim.Native.Nat.{ℕ, ◌+◌, ◌<◌, ◌≤◌}
use native.Mathlib.Omega.{arith}
use lib.ListN.{length, take, drop, length-append, length-take, length-drop}
use lib.Dec.{eqb, leb, ltb}
use borrow.Author.Tests.{lt-ltb, le-ltb, leb-true, ltb-true, ltb-false}
use Rattle.lists.proofs.Split.{clash}
use Rattle.lists.specs.Pick.{pick}
use Rattle.format.specs.Answer.{Answer, gives, refuses, Refusal, missing, kind, long, refuse_if, and_then, wrote, Part, inside, outside, part}
use Rattle.format.specs.Number.{low_bytes}
use Rattle.format.specs.Text.{text_in}
use Rattle.format.specs.Plp.{plp_mark, plp_null, plp_bytes}
use Rattle.format.specs.Scalar.{Kind}
use Rattle.format.specs.Value.{ContentKind, Given, fixed_width, length_byte, content, content_bound, short_null, encode_content, bounded, string_of}
use Rattle.format.specs.Value.{write_family, untyped_length, untyped_binary, untyped_string, untyped_text, write_untyped}
use Rattle.format.proofs.Text.{in_short}
use Rattle.value_kind.specs.declared.family.ContentKind.{ContentKind as Declared}
use Rattle.value_kind.specs.declared.family.ContentKind.TheVariants as CK
use Rattle.value_kind.specs.Told.{content_kind_told}
use Rattle.value_kind.specs.Form.{given_of, encoded, encoded_part, formed, framed, short_up_to, untyped_head, untyped_limit}

-- ---- under a family

module _ (d : ℕ) (p : Part) where
  pub no_fixed : (f : Kind) (k : ContentKind) → write_family d (Some (fixed_width f)) (given_of k p) ≡ refuses kind
  no_fixed f ContentKind.binary = refl
  no_fixed f ContentKind.string = refl

  pub no_listed : (fs : List Kind) (k : ContentKind) → write_family d (Some (length_byte fs)) (given_of k p) ≡ refuses kind
  no_listed fs ContentKind.binary = refl
  no_listed fs ContentKind.string = refl

  pub other_content : (j k : Declared) → (j ≡ k → ⊥) → write_family d (Some (content (content_kind_told j))) (given_of (content_kind_told k) p) ≡ refuses kind
  other_content CK.Binary CK.Binary h = absurd (h refl)
  other_content CK.Binary CK.String h = refl
  other_content CK.String CK.Binary h = refl
  other_content CK.String CK.String h = absurd (h refl)

-- null in its form
module _ (d : ℕ) (k : ContentKind) where
  pub null_plp : eqb d plp_mark ≡ true → write_family d (Some (content k)) Given.null ≡ gives (low_bytes 8 plp_null)
  unfolding plp_bytes
  null_plp e = rw e

  pub null-short : eqb d plp_mark ≡ false → write_family d (Some (content k)) Given.null ≡ gives (low_bytes 2 short_null)
  null-short e = rw e

-- the form goes by the mark
in_form_lem : (d : ℕ) (c : List ℕ) → encode_content d (Some c) ≡ formed (eqb d plp_mark) c
in_form_lem d c = go (eqb d plp_mark)
  where
    go : (b : Bool) → pick b (plp_bytes (Some c)) (formed false c) ≡ formed b c
    go true = refl
    go false = refl

text-bounded : (d : ℕ) (a : Answer (List ℕ)) →
    and_then (string_of a) (bounded d (content ContentKind.string)) ≡ and_then a (framed [] (eqb d plp_mark) (content_bound d))
unfolding framed
text-bounded d (gives c) = ap (λ (l : List ℕ). refuse_if (ltb (content_bound d) (length c)) long (gives l)) (in_form_lem d c)
text-bounded d (refuses e) = refl

pub content-framed : (d : ℕ) (k : ContentKind) (p : Part) →
    write_family d (Some (content k)) (given_of k p) ≡ and_then (encoded_part k p) (framed [] (eqb d plp_mark) (content_bound d))
unfolding framed
content-framed d ContentKind.binary (inside s) = ap (λ (l : List ℕ). refuse_if (ltb (content_bound d) (length s)) long (gives l)) (in_form_lem d s)
content-framed d ContentKind.binary outside = refl
content-framed d ContentKind.string (inside s) = text-bounded d (text_in s)
content-framed d ContentKind.string outside = refl

-- the same by other names for the form and the bound
pub content-size : (d : ℕ) (j k : ContentKind) (p : Part) (plp : Bool) (bound : ℕ) (x : Answer ℕ) → j ≡ k → plp ≡ eqb d plp_mark → bound ≡ content_bound d
    → x ≡ wrote (and_then (encoded_part k p) (framed [] plp bound)) → x ≡ wrote (write_family d (Some (content j)) (given_of k p))
content-size d j k p plp bound x i e f h = rw (e, f) at h ∙ rw (i, content-framed d k p)

-- ---- without a type

-- short content is within its declared length: a byte of UTF-8 is at most two of UTF-16LE
untyped_binary_lem : (s : List ℕ) (b : Bool) → leb (length s) (short_up_to ContentKind.binary) ≡ b →
    write_untyped (Given.binary (inside s)) ≡ framed (untyped_head ContentKind.binary b) (not b) (untyped_limit b) s
unfolding write_untyped framed
untyped_binary_lem s true e = let t = le-ltb untyped_length (length s) (leb-true (length s) untyped_binary e) in rw (e, t)
untyped_binary_lem s false e = rw e

untyped_string_lem : (s : List ℕ) (b : Bool) → leb (length s) (short_up_to ContentKind.string) ≡ b → (a : Answer (List ℕ)) → text_in s ≡ a →
    untyped_text b a ≡ and_then a (framed (untyped_head ContentKind.string b) (not b) (untyped_limit b))
unfolding framed
untyped_string_lem s true e (gives c) t =
    let i = in_short s c t in
    let j = leb-true (length s) untyped_string e in
    let u = le-ltb untyped_length (length c) (omega arith) in
    rw u
untyped_string_lem s false e (gives c) t = refl
untyped_string_lem s b e (refuses r) t = refl

untyped_inside : (k : ContentKind) (s : List ℕ) →
    let b = leb (length s) (short_up_to k) in
    write_untyped (given_of k (inside s)) ≡ and_then (encoded k s) (framed (untyped_head k b) (not b) (untyped_limit b))
unfolding write_untyped
untyped_inside ContentKind.binary s = untyped_binary_lem s (leb (length s) (short_up_to ContentKind.binary)) refl
untyped_inside ContentKind.string s = untyped_string_lem s (leb (length s) (short_up_to ContentKind.string)) refl (text_in s) refl

untyped_outside : (k : ContentKind) → write_untyped (given_of k outside) ≡ refuses missing
unfolding write_untyped
untyped_outside ContentKind.binary = refl
untyped_outside ContentKind.string = refl

-- ---- a span of the buffer

module _ (buffer : List ℕ) (start count : ℕ) where
  pub span-inside : start + count ≤ length buffer → part buffer start count ≡ inside (take count (drop start buffer))
  unfolding part
  span-inside h = rw (le-ltb (length buffer) (start + count) h)

  pub span-outside : length buffer < start + count → part buffer start count ≡ outside
  unfolding part
  span-outside h = rw (lt-ltb (length buffer) (start + count) h)

  pub span-count : start + count ≤ length buffer → length (take count (drop start buffer)) ≡ count
  span-count h = simp (length-take, length-drop) (omega arith)

  -- a span's content is written behind the head that its count chooses
  abbrev SpanWritten : ContentKind → Type 0
  SpanWritten k =
      let b = leb count (short_up_to k) in
      write_untyped (given_of k (part buffer start count))
      ≡ and_then (encoded_part k (part buffer start count)) (framed (untyped_head k b) (not b) (untyped_limit b))

  pub untyped_span : (k : ContentKind) → SpanWritten k
  untyped_span k = go (ltb (length buffer) (start + count)) refl
    where
      go : (t : Bool) → ltb (length buffer) (start + count) ≡ t → SpanWritten k
      go true e = rw (span-outside (ltb-true (length buffer) (start + count) e)) (untyped_outside k)
      go false e =
          let i = ltb-false (length buffer) (start + count) e in
          let u = untyped_inside k (take count (drop start buffer)) in
          rw (span-inside i) (rw (span-count i) at u)

  pub untyped_size : (k : ContentKind) (short : Bool) (limit : ℕ) (x : Answer ℕ) → short ≡ leb count (short_up_to k) → limit ≡ untyped_limit short
      → x ≡ wrote (and_then (encoded_part k (part buffer start count)) (framed (untyped_head k short) (not short) limit))
      → x ≡ wrote (write_untyped (given_of k (part buffer start count)))
  untyped_size k short limit x e f h = rw (f, e) at h ∙ rw (untyped_span k)

-- ---- how many bytes

pub short-size : (c : List ℕ) → 2 + length c ≡ length (formed false c)
short-size c = omega arith

pub plp_none : (c : List ℕ) → length c ≡ 0 → 12 ≡ length (formed true c)
unfolding plp_bytes
plp_none [] h = refl
plp_none (b ∷ bs) h = absurd (omega arith)

pub plp_size : (c : List ℕ) → 0 < length c → 16 + length c ≡ length (formed true c)
unfolding plp_bytes
plp_size [] h = absurd (omega arith)
plp_size (b ∷ bs) h = simp length-append (omega arith)

module _ (h : List ℕ) (plp : Bool) (bound : ℕ) where
  pub framed-refused : (a : Answer (List ℕ)) (e : Refusal) → refuses e ≡ wrote a → refuses e ≡ wrote (and_then a (framed h plp bound))
  unfolding wrote
  framed-refused (gives c) e w = clash cc
  framed-refused (refuses r) e w = w

  pub framed-long : (a : Answer (List ℕ)) (n : ℕ) → gives n ≡ wrote a → bound < n → refuses long ≡ wrote (and_then a (framed h plp bound))
  unfolding wrote framed
  framed-long (gives c) n w i = let e : n ≡ length c = cc in let t = lt-ltb bound (length c) (omega arith) in rw t
  framed-long (refuses r) n w i = clash cc

  pub framed-size : (a : Answer (List ℕ)) (n m : ℕ) → gives n ≡ wrote a → n ≤ bound → ((c : List ℕ) → length c ≡ n → m ≡ length (formed plp c)) →
      gives (length h + m) ≡ wrote (and_then a (framed h plp bound))
  unfolding wrote framed
  framed-size (gives c) n m w i f =
      let e : n ≡ length c = cc in
      let t = le-ltb bound (length c) (omega arith) in
      rw (t, length-append, f c (sym e))
  framed-size (refuses r) n m w i f = clash cc
