-- "Binary and string": `held n k` for binary and for text, under every declared length n of two bytes.
-- A value fits where it is null, or content within the bound and of an even count where it is text. Under 65,535 it is the PLP codec; else the short form,
-- whose two length bytes say every length that is allowed and one more, the null's.
-- Assumes nothing.
use Rattle.std.specs.Prelude.{None, Option, Some}
use mathlib.Core.Path.{◌≡◌, refl, ap}
use mathlib.Core.List.{List, [], ◌++◌}
use mathlib.Core.Bool.{Bool, true, false}
use Prim.Native.Nat.{ℕ, ◌+◌, ◌^◌, ◌<◌, ◌≤◌}
use native.Mathlib.Omega.{arith}
use lib.ListN.{length, drop}
use lib.Dec.{ltb, eqb, lit<}
use borrow.Author.Tests.{le-ltb, ltb-false, eqb-false, ne_eqb}
use Rattle.lists.proofs.Split.{split}
use Rattle.format.specs.Answer.{took, map_read, then_read, long, sequence}
use Rattle.format.specs.Number.{low_bytes, read_low, read_bytes}
use Rattle.format.specs.Plp.{plp_mark, plp_bound, is_odd, read_plp, plp_bytes}
use Rattle.format.specs.Value.{Value, ContentKind, content, is_text, content_value, content_bound, short_null, read_short, read_content, short_bytes, encode_in}
use Rattle.format.proofs.Number.{Bytes}
use Rattle.format.proofs.Place.{past, map-took, then_took}
use Rattle.format.proofs.Plain.{bytes_again, bytes-took, low_again, low-took}
use Rattle.format.proofs.Codec.{Codec, then_again}
use Rattle.format.proofs.Plp as Plps

pub data Held (k : ContentKind) (declared : ℕ) : Value → Type 0 where
  holds : (o : Option (List ℕ)) → Plps.Within (is_text k) (content_bound declared) o → Held k declared (content_value k o)

-- the short form
abbrev short_form : Option (List ℕ) → List ℕ
short_form None = low_bytes 2 short_null
short_form (Some c) = short_bytes c

-- the bytes of content, or null, of either kind: those of the form that the declared length says
encode-short : (k : ContentKind) (n : ℕ) (o : Option (List ℕ)) → eqb n plp_mark ≡ false → encode_in n (content k) (content_value k o) ≡ short_form o
encode-short k n None e = rw e
encode-short ContentKind.binary n (Some c) e = rw e
encode-short ContentKind.string n (Some c) e = rw e

encode_plp : (k : ContentKind) (n : ℕ) (o : Option (List ℕ)) → eqb n plp_mark ≡ true → encode_in n (content k) (content_value k o) ≡ plp_bytes o
encode_plp k n None e = rw e
encode_plp ContentKind.binary n (Some c) e = rw e
encode_plp ContentKind.string n (Some c) e = rw e

module _ (n : ℕ) (k : ContentKind) where
  -- what was read fits, and takes no more bytes again
  abbrev HeldTook : Value → ℕ → Type 0
  HeldTook v m = Held k n v × (length (encode_in n (content k) v) ≤ m + 0)

  -- the short form
  module _ (i : n < 256 ^ 2) (e : eqb n plp_mark ≡ false) where
    below : (c : List ℕ) → length c ≤ n → length c < short_null
    below c l = omega (arith, i, l, eqb-false n plp_mark e)

    short-read : (c rest : List ℕ) → Plps.Within (is_text k) n (Some c) → read_short k n (length c) (c ++ rest) ≡ took (content_value k (Some c)) (length c)
    short-read c rest f =
        let a : eqb (length c) short_null ≡ false = ne_eqb (length c) short_null (λ z. omega (arith, z, below c f.0)) in
        let b : ltb n (length c) ≡ false = le-ltb n (length c) f.0 in
        rw (a, b, f.1, bytes_again c rest)

    short_again : (o : Option (List ℕ)) (rest : List ℕ) → Plps.Within (is_text k) n o →
        then_read (read_low 2) (read_short k n) (short_form o ++ rest) ≡ took (content_value k o) (length (short_form o))
    short_again None rest f =
        then_again (read_low 2) (read_short k n) (low_bytes 2 short_null) [] rest short_null Value.null (λ more. low_again 2 short_null more (lit< tt)) refl
    short_again (Some c) rest f =
        then_again (read_low 2) (read_short k n) (low_bytes 2 (length c)) c rest (length c) (content_value k (Some c))
        (λ more. low_again 2 (length c) more (omega (arith, below c f.0)))
        (short-read c rest f)

    short-took : (s : List ℕ) (v : Value) (m : ℕ) → then_read (read_low 2) (read_short k n) s ≡ took v m →
        (o : Option (List ℕ)) × (content_value k o ≡ v) × Plps.Within (is_text k) n o × (length (short_form o) ≤ m)
    short-took s v m h =
        let p = then_took (read_low 2) (read_short k n) s v m h in
        let w = p.0 in
        let r = drop p.1 s in
        let t = low-took 2 s w p.1 p.3 in
        let u = p.5 in
        split (eqb w short_null)
        (λ _ q. let d : Value.null ≡ v = cc in (None, d, tt, omega arith))
        (λ _ q.
        let a = past (ltb n w) long _ v p.2 q in
        let b = past (is_odd (is_text k) w) sequence _ v p.2 a.1 in
        let c = map-took (λ c. content_value k (Some c)) (read_bytes w r) v p.2 b.1 in
        let d = bytes-took w r c.0 p.2 c.1 in
        let l = d.2 in
        let g = d.1 in
        let x = ltb-false n w a.0 in
        (Some c.0, c.2, (omega arith, rw l b.0), omega arith))
        p.4

  -- as PLP
  module _ (e : eqb n plp_mark ≡ true) where
    plp_again : (o : Option (List ℕ)) (rest : List ℕ) → Plps.Within (is_text k) plp_bound o →
        read_content k n (plp_bytes o ++ rest) ≡ took (content_value k o) (length (plp_bytes o))
    plp_again o rest f = rw e (ap (map_read (content_value k)) ((Plps.codec (is_text k)).again o rest f))

    plp_took : (s : List ℕ) (v : Value) (m : ℕ) → Bytes s → read_content k n s ≡ took v m → HeldTook v m
    plp_took s v m b h =
        let p = map-took (content_value k) (read_plp (is_text k) s) v m (rw e at h) in
        let f = (Plps.codec (is_text k)).fits s p.0 m b p.1 in
        let l = (Plps.codec (is_text k)).short s p.0 m b p.1 in
        rw (← p.2) (holds p.0 (rw e f), rw (encode_plp k n p.0 e) l)

  module _ (i : n < 256 ^ 2) where
    held_again : (v : Value) (rest : List ℕ) → Held k n v → read_content k n (encode_in n (content k) v ++ rest) ≡ took v (length (encode_in n (content k) v))
    held_again v rest (holds o f) = go (eqb n plp_mark) refl
      where
        go : (b : Bool) → eqb n plp_mark ≡ b →
            read_content k n (encode_in n (content k) (content_value k o) ++ rest) ≡ took (content_value k o)
            (length (encode_in n (content k) (content_value k o)))
        go true e = rw (encode_plp k n o e) (plp_again e o rest (rw e at f))
        go false e = rw (encode-short k n o e, e) (short_again i e o rest (rw e at f))

    held-took : (s : List ℕ) (v : Value) (m : ℕ) → Bytes s → read_content k n s ≡ took v m → HeldTook v m
    held-took s v m b h = go (eqb n plp_mark) refl
      where
        go : (b : Bool) → eqb n plp_mark ≡ b → HeldTook v m
        go true e = plp_took e s v m b h
        go false e =
            let p = short-took i e s v m (rw e at h) in
            rw (← p.1) (holds p.0 (rw e p.2), rw (encode-short k n p.0 e) (omega (arith, p.3)))

    pub held : Codec (read_content k n) (encode_in n (content k)) (Held k n) 0
    held = record { again = held_again; fits = λ s v m b h. (held-took s v m b h).0; short = λ s v m b h. (held-took s v m b h).1 }
