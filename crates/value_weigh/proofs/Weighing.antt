-- How many bytes the normal form of a value has that was read: as many as it took, but for PLP content, whose chunks become one.
-- A scalar takes its width again, behind a length byte or not; a null has one form for each family; short content is as long as its two length bytes say.
-- PLP content of none is two marks, twelve bytes; any other has one head more, and what was read had at least these.
-- Assumes nothing.
use Rattle.std.specs.Prelude.{None, Option, Some}
use mathlib.Core.Path.{◌≡◌, refl, sym, ap, ◌∙◌}
use mathlib.Core.Bool.{Bool, true, false}
use mathlib.Core.List.{List, [], ◌∷◌}
use Prim.Native.Nat.{ℕ, suc, ◌+◌, ◌≤◌}
use native.Mathlib.Omega.{arith}
use lib.Dec.{eqb, ltb}
use lib.ListN.{length, drop, length-append}
use Rattle.lists.specs.Pick.{pick}
use Rattle.lists.proofs.Split.{split, clash}
use Rattle.format.specs.Answer.{Refusal, Read, took, stops, map_read, then_read, long, sequence, not_carried}
use Rattle.format.specs.Number.{low_bytes, read_byte, read_low, read_bytes}
use Rattle.format.specs.Scalar.{Kind, Scalar, width, scalar_of, scalar_bytes, read_scalar}
use Rattle.format.specs.Plp.{plp_mark, plp_bound, is_odd, read_plp, plp_copied, plp_bytes}
use Rattle.format.specs.Value.{Value, ContentKind, Family, fixed_width, length_byte, content, is_text, content_value, of_width, read_width, read_length_byte}
use Rattle.format.specs.Value.{short_null, read_short, read_family, encode_family}
use Rattle.format.proofs.Place.{past, no_took, map-took, then_took}
use Rattle.format.proofs.Plain.{byte-took, low-took, bytes-took}
use Rattle.format.proofs.Scalar.{length-guid}
use Rattle.format.proofs.Opening.{stays_plp}
use Rattle.format.proofs.Plp as Plps
use Rattle.plp_join.specs.Told.{counted, content_in}
use Rattle.plp_join.proofs.Joining.{counted-null, counted-stops, counted-content}
use Rattle.value_weigh.specs.Told.{Needs, copied_in, needs_in, plp_needs}

-- ---- a scalar takes its width again

scalar-length : (k : Kind) (s : List ℕ) → length s ≡ width k → length (scalar_bytes (scalar_of k s)) ≡ width k
unfolding scalar_of scalar_bytes
scalar-length Kind.bit s l = refl
scalar-length Kind.u8 s l = refl
scalar-length Kind.i16 s l = refl
scalar-length Kind.i32 s l = refl
scalar-length Kind.i64 s l = refl
scalar-length Kind.f32 s l = refl
scalar-length Kind.f64 s l = refl
scalar-length Kind.guid s l = length-guid _ ∙ (length-guid s ∙ l)

scalar_size : (k : Kind) (s : List ℕ) (x : Scalar) (n : ℕ) → read_scalar k s ≡ took x n → length (scalar_bytes x) ≡ n
unfolding read_scalar
scalar_size k s x n h =
    let p = map-took (scalar_of k) (read_bytes (width k) s) x n h in
    let q = bytes-took (width k) s p.0 n p.1 in
    rw (← p.2) (scalar-length k p.0 q.2 ∙ q.1)

-- ---- the values whose form is the only one: all but PLP content

abbrev pub Single : ℕ → Value → Type 0
Single declared Value.null = Unit {0}
Single declared (Value.scalar v) = Unit {0}
Single declared (Value.binary s) = eqb declared plp_mark ≡ false
Single declared (Value.string s) = eqb declared plp_mark ≡ false

pub single_content : (declared : ℕ) (k : ContentKind) (s : List ℕ) → eqb declared plp_mark ≡ false → Single declared (content_value k (Some s))
single_content declared ContentKind.binary s e = e
single_content declared ContentKind.string s e = e

not_single : {P : Type 0} (declared : ℕ) (k : ContentKind) (s : List ℕ) → eqb declared plp_mark ≡ true → Single declared (content_value k (Some s)) → P
not_single declared ContentKind.binary s e h = clash (cc (sym e ∙ h))
not_single declared ContentKind.string s e h = clash (cc (sym e ∙ h))

-- a PLP null is its eight bytes
null_eight : (text : Bool) (n : ℕ) → Plps.Taken text None n → 8 ≡ n
null_eight text n Plps.null = refl

module _ (declared : ℕ) (s : List ℕ) (v : Value) (n : ℕ) where
  abbrev Sized : Option Family → Type 0
  Sized f = length (encode_family declared f v) ≡ n

  fixed-size : (k : Kind) → read_family declared (Some (fixed_width k)) s ≡ took v n → Sized (Some (fixed_width k))
  fixed-size k h = let p = map-took Value.scalar (read_scalar k s) v n h in rw (← p.2) (scalar_size k s p.0 n p.1)

  width-size : (w : ℕ) (o : Option Kind) (rest : List ℕ) (m : ℕ) → read_width declared w o rest ≡ took v m → 1 + m ≡ n → (ks : List Kind)
      → Sized (Some (length_byte ks))
  width-size w None rest m h e ks = no_took sequence v m h
  width-size w (Some k) rest m h e ks =
      let p = past (ltb declared w) long (map_read Value.scalar (read_scalar k rest)) v m h in
      let q = map-took Value.scalar (read_scalar k rest) v m p.1 in
      rw (← q.2) (omega (arith, scalar_size k rest q.0 m q.1, e))

  listed-size : (ks : List Kind) → read_family declared (Some (length_byte ks)) s ≡ took v n → Sized (Some (length_byte ks))
  listed-size ks h =
      let p = then_took read_byte (read_length_byte ks declared) s v n h in
      let b = byte-took s p.0 p.1 p.3 in
      split (eqb p.0 0)
      (λ _ (e : took Value.null 0 ≡ took v p.2).
      let q : Value.null ≡ v = cc e in
      let z : 0 ≡ p.2 = cc e in
      rw (← q) (omega (arith, b, z, p.5)))
      (λ _ e. width-size p.0 (of_width ks p.0) (drop p.1 s) p.2 e (omega (arith, b, p.5)) ks)
      p.4

  short-size : (k : ContentKind) → eqb declared plp_mark ≡ false → then_read (read_low 2) (read_short k declared) s ≡ took v n → Sized (Some (content k))
  short-size k t h =
      let p = then_took (read_low 2) (read_short k declared) s v n h in
      let w = p.0 in
      let b = low-took 2 s w p.1 p.3 in
      split (eqb w short_null)
      (λ _ (e : took Value.null 0 ≡ took v p.2).
      let q : Value.null ≡ v = cc e in
      let z : 0 ≡ p.2 = cc e in
      rw (← q, t) (omega (arith, b, z, p.5)))
      (λ _ e.
      let x = past (ltb declared w) long _ v p.2 e in
      let y = past (is_odd (is_text k) w) sequence _ v p.2 x.1 in
      let c = map-took (λ c. content_value k (Some c)) (read_bytes w (drop p.1 s)) v p.2 y.1 in
      let d = bytes-took w (drop p.1 s) c.0 p.2 c.1 in
      rw (← c.2) (content-size k c.0 ∙ omega (arith, b, p.5, d.1, d.2)))
      p.4
    where
      content-size : (j : ContentKind) (c : List ℕ) → length (encode_family declared (Some (content k)) (content_value j (Some c))) ≡ 2 + length c
      content-size ContentKind.binary c = rw t (omega arith)
      content-size ContentKind.string c = rw t (omega arith)

  null_size : (k : ContentKind) (o : Option (List ℕ)) → eqb declared plp_mark ≡ true → read_plp (is_text k) s ≡ took o n → content_value k o ≡ v
      → Single declared v
      → Sized (Some (content k))
  unfolding plp_bytes
  null_size k None t h e w = rw (← e, t) (null_eight (is_text k) n (Plps.plp_took (is_text k) s None n h))
  null_size k (Some c) t h e w = not_single declared k c t (rw (← e) at w)

  pub same_size : (f : Option Family) → read_family declared f s ≡ took v n → Single declared v → Sized f
  same_size None h w = no_took not_carried v n h
  same_size (Some (fixed_width k)) h w = fixed-size k h
  same_size (Some (length_byte ks)) h w = listed-size ks h
  same_size (Some (content k)) h w = go (eqb declared plp_mark) refl
    where
      go : (b : Bool) → eqb declared plp_mark ≡ b → Sized (Some (content k))
      go true t =
          let p = map-took (content_value k) (read_plp (is_text k) s) v n (rw t at h) in
          null_size k p.0 t p.1 p.2 w
      go false t = short-size k t (rw t at h)

-- ---- what was seen, weighed: a value of one form

none_copied : (b : Bool) → pick {A = List ℕ} b [] [] ≡ []
none_copied true = refl
none_copied false = refl

single_copies : (declared : ℕ) (v : Value) → Single declared v → copied_in declared v ≡ []
single_copies declared Value.null w = none_copied (eqb declared plp_mark)
single_copies declared (Value.scalar v) w = none_copied (eqb declared plp_mark)
single_copies declared (Value.binary s) w = rw w
single_copies declared (Value.string s) w = rw w

module _ (declared : ℕ) (f : Option Family) (s : List ℕ) where
  -- what a value that was read of the rest needs
  abbrev pub asked : Read Needs
  asked = map_read (needs_in declared f) (read_family declared f s)

  pub single_weighs : (v : Value) (n : ℕ) → took v n ≡ read_family declared f s → Single declared v → took (record { joined = 0; normal = n }) n ≡ asked
  single_weighs v n h w =
      let e : length (encode_family declared f v) ≡ n = same_size declared s v n f (sym h) w in
      sym (ap (map_read (needs_in declared f)) (sym h) ∙ rw (single_copies declared v w, e))

  pub stops_weighs : (e : Refusal) → stops e ≡ read_family declared f s → stops e ≡ asked
  stops_weighs e h = ap (map_read (needs_in declared f)) h

-- ---- PLP content: no other family has any, nor a null of eight bytes

plp_longer : (c : List ℕ) → length c ≤ length (plp_bytes (Some c))
unfolding plp_bytes
plp_longer [] = omega arith
plp_longer (b ∷ bs) = omega (arith, length-append bs (low_bytes 4 0))

plp_least : (text : Bool) (o : Option (List ℕ)) (n : ℕ) → Plps.Taken text o n → 8 ≤ n
plp_least text o n Plps.null = omega arith
plp_least text o n (Plps.content c m b e i) = omega (arith, i)

no_scalar : {P : Type 0} (k : ContentKind) (o : Option (List ℕ)) (x : Scalar) → Value.scalar x ≡ content_value k o → P
no_scalar k None x h = clash cc
no_scalar ContentKind.binary (Some c) x h = clash cc
no_scalar ContentKind.string (Some c) x h = clash cc

module _ (declared : ℕ) (s : List ℕ) (t : eqb declared plp_mark ≡ true) (k : ContentKind) where
  no_width : {P : Type 0} (w : ℕ) (j : Option Kind) (rest : List ℕ) (o : Option (List ℕ)) (m : ℕ) → read_width declared w j rest ≡ took (content_value k o)
      m → P
  no_width w None rest o m h = no_took sequence (content_value k o) m h
  no_width w (Some j) rest o m h =
      let p = past (ltb declared w) long (map_read Value.scalar (read_scalar j rest)) (content_value k o) m h in
      let q = map-took Value.scalar (read_scalar j rest) (content_value k o) m p.1 in
      no_scalar k o q.0 q.2

  no_listed : {P : Type 0} (ks : List Kind) (o : Option (List ℕ)) (n : ℕ) → 8 ≤ n → read_family declared (Some (length_byte ks)) s
      ≡ took (content_value k o) n → P
  no_listed ks o n l h =
      let p = then_took read_byte (read_length_byte ks declared) s (content_value k o) n h in
      let b = byte-took s p.0 p.1 p.3 in
      split (eqb p.0 0)
      (λ _ (e : took Value.null 0 ≡ took (content_value k o) p.2). let z : 0 ≡ p.2 = cc e in absurd (omega (arith, l, b, z, p.5)))
      (λ _ e. no_width p.0 (of_width ks p.0) (drop p.1 s) o p.2 e)
      p.4

  -- the value's form is PLP's
  plp_form : (f : Option Family) (o : Option (List ℕ)) (n : ℕ) → 8 ≤ n → read_family declared f s ≡ took (content_value k o) n
      → encode_family declared f (content_value k o) ≡ plp_bytes o
  plp_form None o n l h = no_took not_carried (content_value k o) n h
  plp_form (Some (fixed_width j)) o n l h =
      let p = map-took Value.scalar (read_scalar j s) (content_value k o) n h in
      no_scalar k o p.0 p.2
  plp_form (Some (length_byte ks)) o n l h = no_listed ks o n l h
  plp_form (Some (content j)) o n l h = go k o
    where
      go : (i : ContentKind) (x : Option (List ℕ)) → encode_family declared (Some (content j)) (content_value i x) ≡ plp_bytes x
      go i None = rw t
      go ContentKind.binary (Some c) = rw t
      go ContentKind.string (Some c) = rw t

  plp_copies : (i : ContentKind) (o : Option (List ℕ)) → copied_in declared (content_value i o) ≡ plp_copied o
  plp_copies i None = rw t
  plp_copies ContentKind.binary (Some c) = rw t
  plp_copies ContentKind.string (Some c) = rw t

  plp_asked : (f : Option Family) (r : Read (Option (List ℕ))) → read_plp (is_text k) s ≡ r → map_read (content_value k) r ≡ read_family declared f s
      → map_read plp_needs r ≡ asked declared f s
  plp_asked f (took o n) e h =
      let l = plp_least (is_text k) o n (Plps.plp_took (is_text k) s o n e) in
      let g = plp_form f o n l (sym h) in
      sym (ap (map_read (needs_in declared f)) (sym h) ∙ rw (plp_copies k o, g))
  plp_asked f (stops r) e h = ap (map_read (needs_in declared f)) h

  pub plp_weighs : (f : Option Family) (w : Read Needs) → map_read (content_value k) (read_plp (is_text k) s) ≡ read_family declared f s
      → w ≡ map_read plp_needs (read_plp (is_text k) s) → w ≡ asked declared f s
  plp_weighs f w h e = e ∙ plp_asked f (read_plp (is_text k) s) refl h

-- ---- a PLP value, by what was judged of it

module _ (text : Bool) (s : List ℕ) where
  content_most : (c : List ℕ) (n : ℕ) → Plps.Taken text (Some c) n → (length c ≤ 65535) × (length (plp_bytes (Some c)) ≤ n)
  unfolding plp_bytes plp_bound
  content_most [] n (Plps.content c m b e i) = (omega arith, omega (arith, i))
  content_most (x ∷ xs) n (Plps.content c m b e i) =
      let j : 8 + (4 + suc (length xs) + 4) ≤ n = i in
      (b, omega (arith, j, length-append xs (low_bytes 4 0)))

  -- what is asked of a PLP value's weight
  abbrev pub Weighs : Read Needs → Type 0
  Weighs w = w ≡ map_read plp_needs (read_plp text s)

  pub judged_null : took None 8 ≡ map_read counted (read_plp text s) → Weighs (took (record { joined = 0; normal = 8 }) 8) × (8 ≤ length s)
  unfolding plp_bytes
  judged_null h =
      let e = counted-null (read_plp text s) 8 (sym h) in
      (ap (map_read plp_needs) (sym e), stays_plp text s None 8 e)

  pub judged_stops : (e : Refusal) → stops e ≡ map_read counted (read_plp text s) → Weighs (stops e)
  judged_stops e h = ap (map_read plp_needs) (sym (counted-stops (read_plp text s) e (sym h)))

  module _ (count end : ℕ) (h : took (Some count) end ≡ map_read counted (read_plp text s)) where
    -- the content that was counted
    abbrev c : List ℕ
    c = content_in (read_plp text s)

    read : read_plp text s ≡ took (Some c) end
    read = (counted-content (read_plp text s) count end (sym h)).content

    long_as : length c ≡ count
    long_as = (counted-content (read_plp text s) count end (sym h)).long

    taken : (length c ≤ 65535) × (length (plp_bytes (Some c)) ≤ end)
    taken = content_most c end (Plps.plp_took text s (Some c) end read)

    pub judged_most : count ≤ 65535
    judged_most = omega (arith, taken.0, long_as)

    pub judged_content : (m : ℕ) → ((x : List ℕ) → length x ≡ count → m ≡ length (plp_bytes (Some x)))
        → Weighs (took (record { joined = count; normal = m }) end) × ((end ≤ length s) × (count ≤ end) × (m ≤ end))
    judged_content m f =
        let g = f c long_as in (
          sym (ap (map_read plp_needs) read ∙ rw (long_as, ← g)),
          (stays_plp text s (Some c) end read, omega (arith, taken.1, plp_longer c, long_as), omega (arith, g, taken.1)),
        )
