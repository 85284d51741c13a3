-- Writing and reading agree, for values and for rows.
--
-- Whatever write_value c g gives, read_value c reads it, with any bytes behind it, as the value that g stands for, and ends where it ends:
--   write_value c g ≡ gives b  →  value_of g ≡ gives v, read_value c (b ++ rest) ≡ took v (length b).
-- The same of a row, write_row and read_row; and what a row's writer gives is its own normal form.
-- Asked of the values to be written is their range alone: an unsigned number of 8 bits, a whole number of 16, 32 or 64 bits, a float's bits, a GUID's
-- sixteen bytes.
--
-- Why it holds: the writer's checks 6, 7, 3 and 5 are what it means that a value fits its column, and what fits reads again (Value.antt). A string's
-- content is even
-- since UTF-16LE has two bytes or four for each character.
-- Assumes nothing.
use Rattle.std.specs.Prelude.{None, Option, Some}
use mathlib.Core.Path.{◌≡◌, refl, ap}
use mathlib.Core.List.{List, [], ◌∷◌, ◌++◌}
use mathlib.Core.Bool.{true, false, not}
use Prim.Native.Nat.{ℕ}
use native.Mathlib.Omega.{arith}
use lib.ListN.{length}
use lib.Dec.{ltb, eqb}
use borrow.Author.Tests.{ltb-false, eqb-true, not-false}
use Rattle.format.specs.Answer.{Answer, gives, refuses, took, missing, kind, long, rule, not_carried, and_then, inside, outside}
use Rattle.format.specs.Text.{text_in}
use Rattle.format.specs.Descriptor.{Column, keeps_rule}
use Rattle.format.specs.Scalar.{Kind, kind_of, width}
use Rattle.format.specs.Value.{Value, Given, ContentKind, Family, fixed_width, length_byte, content, family_of, content_bound, read_value, encode_in}
use Rattle.format.specs.Value.{encode, kind_fits, string_of, value_of, too_long, bounded, write_family, write_value}
use Rattle.format.specs.Row.{max_columns, read_row, join_two, write_values, write_row}
use Rattle.format.specs.Normal.{encode_row, normal}
use Rattle.format.proofs.Answer.{no_truth, no_gives, passed, and_took}
use Rattle.format.proofs.Content.{Held, holds}
use Rattle.format.proofs.Codec.{FitAll}
use Rattle.format.proofs.Scalar.{InRange}
use Rattle.format.proofs.FixedWidth as Fixeds
use Rattle.format.proofs.LengthByte as Listeds
use Rattle.format.proofs.Text.{in_even}
use Rattle.format.proofs.Value.{Fits, Fit, column}
use Rattle.format.proofs.Normal.{FitRow, reads, own}

-- ---- a value

-- A value to be written is in its range.
abbrev pub Ranged : Given → Type 0
Ranged Given.null = Unit {0}
Ranged (Given.scalar x) = InRange x
Ranged (Given.binary p) = Unit {0}
Ranged (Given.string p) = Unit {0}

-- what passes the checks 3, 1, 9 and 5 fits
module _ (n : ℕ) (v : Value) where
  wrote-fixed : (k : Kind) (g : Given) → Ranged g → kind_fits (fixed_width k) g ≡ true → value_of g ≡ gives v → Fixeds.Fixed k v
  wrote-fixed k Given.null r h e = no_truth h
  wrote-fixed k (Given.scalar x) r h e =
      let p : Value.scalar x ≡ v = cc in
      rw (← p) (Fixeds.scalar x (Listeds.same_kind_lem (kind_of x) k h, r))
  wrote-fixed k (Given.binary p) r h e = no_truth h
  wrote-fixed k (Given.string p) r h e = no_truth h

  wrote-listed : (ks : List Kind) (g : Given) → Ranged g → kind_fits (length_byte ks) g ≡ true → value_of g ≡ gives v →
      too_long n (length_byte ks) v ≡ false → Listeds.Listed ks n v
  wrote-listed ks Given.null r h e l = let p : Value.null ≡ v = cc in rw (← p) Listeds.null
  wrote-listed ks (Given.scalar x) r h e l =
      let p : Value.scalar x ≡ v = cc in
      rw (← p) (Listeds.scalar x h (ltb-false n (width (kind_of x)) (rw (← p) at l)) r)
  wrote-listed ks (Given.binary p) r h e l = no_truth h
  wrote-listed ks (Given.string p) r h e l = no_truth h

  wrote-held : (k : ContentKind) (g : Given) → kind_fits (content k) g ≡ true → value_of g ≡ gives v → too_long n (content k) v ≡ false → Held k n v
  wrote-held k Given.null h e l = let p : Value.null ≡ v = cc in rw (← p) (holds None tt)
  wrote-held k (Given.scalar x) h e l = no_truth h
  wrote-held ContentKind.binary (Given.binary (inside s)) h e l =
      let p : Value.binary s ≡ v = cc in
      rw (← p) (holds (Some s) (ltb-false (content_bound n) (length s) (rw (← p) at l), refl))
  wrote-held ContentKind.binary (Given.binary outside) h e l = no_gives missing v e
  wrote-held ContentKind.string (Given.binary p) h e l = no_truth h
  wrote-held ContentKind.binary (Given.string p) h e l = no_truth h
  wrote-held ContentKind.string (Given.string outside) h e l = no_gives missing v e
  wrote-held ContentKind.string (Given.string (inside s)) h e l = go (text_in s) refl e
    where
      go : (a : Answer (List ℕ)) → text_in s ≡ a → string_of a ≡ gives v → Held ContentKind.string n v
      go (gives t) f q =
          let p : Value.string t ≡ v = cc in
          rw (← p) (holds (Some t) (ltb-false (content_bound n) (length t) (rw (← p) at l), ap (λ (k : ℕ). not (eqb k 0)) (in_even s t f)))
      go (refuses r) f q = no_gives r v q

  wrote_family : (f : Family) (g : Given) → Ranged g → kind_fits f g ≡ true → value_of g ≡ gives v → too_long n f v ≡ false → Fits n (Some f) v
  wrote_family (fixed_width k) g r h e l = wrote-fixed k g r h e
  wrote_family (length_byte ks) g r h e l = wrote-listed ks g r h e l
  wrote_family (content k) g r h e l = wrote-held k g h e l

-- What a writer gave: the value that was given, which fits the column, and its bytes.
abbrev Wrote : Column → Given → List ℕ → Type 0
Wrote c g bytes = (v : Value) × (value_of g ≡ gives v) × Fit c v × (encode c v ≡ bytes)

module _ (c : Column) (g : Given) (bytes : List ℕ) (r : Ranged g) where
  wrote-given : (f : Family) → family_of c.type ≡ Some f → keeps_rule c ≡ true → kind_fits f g ≡ true → (a : Answer Value) → value_of g ≡ a →
      and_then a (bounded c.length f) ≡ gives bytes → Wrote c g bytes
  unfolding encode
  wrote-given f t k i (gives v) e h =
      let p = passed (too_long c.length f v) long (gives (encode_in c.length f v)) bytes h in
      let b : encode_in c.length f v ≡ bytes = cc p.1 in
      (v, e, (k, rw t (wrote_family c.length v f g r i e p.0)), rw t b)
  wrote-given f t k i (refuses x) e h = no_gives x bytes h

  wrote_in : (f : Option Family) → family_of c.type ≡ f → keeps_rule c ≡ true → write_family c.length f g ≡ gives bytes → Wrote c g bytes
  wrote_in None t k h = no_gives not_carried bytes h
  wrote_in (Some f) t k h =
      let p = passed (not (kind_fits f g)) kind (and_then (value_of g) (bounded c.length f)) bytes h in
      wrote-given f t k (not-false (kind_fits f g) p.0) (value_of g) refl p.1

  wrote : write_value c g ≡ gives bytes → Wrote c g bytes
  unfolding write_value
  wrote h =
      let p = passed (not (keeps_rule c)) rule (write_family c.length (family_of c.type) g) bytes h in
      wrote_in (family_of c.type) refl (not-false (keeps_rule c) p.0) p.1

-- What a value's writer gave reads as the value that was given.
pub record ValueAgrees (c : Column) (g : Given) (bytes : List ℕ) : Type 0 where
  pub value : Value
  pub given : value_of g ≡ gives value
  pub reads : (rest : List ℕ) → read_value c (bytes ++ rest) ≡ took value (length bytes)

pub value_agrees : (c : Column) (g : Given) (bytes : List ℕ) → Ranged g → write_value c g ≡ gives bytes → ValueAgrees c g bytes
value_agrees c g bytes r h =
    let p = wrote c g bytes r h in
    record { value = p.0; given = p.1; reads = λ rest. rw p.3 at ((column c).again p.0 rest p.2) }

-- ---- a row

abbrev pub RangedAll : List Given → Type 0
RangedAll [] = Unit {0}
RangedAll (g ∷ gs) = Ranged g × RangedAll gs

-- The values that were given, one after another.
abbrev pub GivenAll : List Given → List Value → Type 0
GivenAll [] [] = Unit {0}
GivenAll [] (v ∷ vs) = ⊥
GivenAll (g ∷ gs) [] = ⊥
GivenAll (g ∷ gs) (v ∷ vs) = (value_of g ≡ gives v) × GivenAll gs vs

abbrev WroteAll : List Column → List Given → List ℕ → Type 0
WroteAll cs gs bytes = (vs : List Value) × GivenAll gs vs × FitAll Fit cs vs × (encode_row cs vs ≡ bytes)

join_took : (a : Answer (List ℕ)) (first bytes : List ℕ) → join_two a first ≡ gives bytes → (rest : List ℕ) × (a ≡ gives rest) × (first ++ rest ≡ bytes)
join_took (gives rest) first bytes h = (rest, refl, cc)
join_took (refuses e) first bytes h = no_gives e bytes h

wrote_all : (cs : List Column) (gs : List Given) (bytes : List ℕ) → length cs ≡ length gs → RangedAll gs → write_values cs gs ≡ gives bytes →
    WroteAll cs gs bytes
unfolding write_values encode_row
wrote_all [] [] bytes l r h = ([], tt, tt, cc)
wrote_all [] (g ∷ gs) bytes l r h = absurd (omega arith)
wrote_all (c ∷ cs) [] bytes l r h = absurd (omega arith)
wrote_all (c ∷ cs) (g ∷ gs) bytes l r h =
    let p = and_took (write_value c g) (join_two (write_values cs gs)) bytes h in
    let q = join_took (write_values cs gs) p.0 bytes p.2 in
    let a = wrote c g p.0 r.0 p.1 in
    let b = wrote_all cs gs q.0 (omega arith) r.1 q.1 in
    (a.0 ∷ b.0, (a.1, b.1), (a.2, b.2), rw (a.3, b.3) q.2)

-- What a row's writer gave reads as the values that were given, and is its own normal form.
pub record RowAgrees (cs : List Column) (gs : List Given) (bytes : List ℕ) : Type 0 where
  pub values : List Value
  pub given : GivenAll gs values
  pub reads : (rest : List ℕ) → read_row cs (bytes ++ rest) ≡ took values (length bytes)
  pub own : (rest : List ℕ) → normal cs (bytes ++ rest) ≡ took bytes (length bytes)

pub row_agrees : (cs : List Column) (gs : List Given) (bytes : List ℕ) → RangedAll gs → write_row cs gs ≡ gives bytes → RowAgrees cs gs bytes
unfolding write_row
row_agrees cs gs bytes r h =
    let p = passed (ltb max_columns (length cs)) rule _ bytes h in
    let q = passed (not (eqb (length cs) (length gs))) rule (write_values cs gs) bytes p.1 in
    let l = eqb-true (length cs) (length gs) (not-false (eqb (length cs) (length gs)) q.0) in
    let w = wrote_all cs gs bytes l r q.1 in
    let f : FitRow cs w.0 = (ltb-false max_columns (length cs) p.0, w.2) in
    record {
      values = w.0;
      given = w.1;
      reads = λ rest. rw w.3 at (reads cs w.0 rest f);
      own = λ rest. rw w.3 at (own cs w.0 rest f);
    }
