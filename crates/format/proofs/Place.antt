-- Reading at a place: what a cursor finds is what the reader says of the bytes from the place on; and one reader behind another at a place is the second
-- at the first one's next place.
-- Assumes nothing.
use mathlib.Core.Path.{◌≡◌, refl, ap, sym, ◌∙◌}
use mathlib.Core.List.{List, [], ◌∷◌}
use mathlib.Core.Bool.{Bool, true, false}
use Prim.Native.Nat.{ℕ, ◌+◌, ◌<◌, ◌≤◌}
use native.Mathlib.Nat.{add_assoc, add-zero}
use native.Mathlib.Omega.{arith}
use lib.ListN.{length, drop, length-drop}
use lib.Seq.{drop-drop}
use lib.Dec.{ltb}
use borrow.Author.Tests.{lt-ltb, le-ltb, ltb-false, ltb-true}
use Rattle.lists.proofs.Split.{clash}
use Rattle.lists.specs.Pick.{pick}
use Rattle.format.specs.Answer.{Refusal, missing, Read, took, stops, stop_if, further, follow, then_read, map_read, read_at}
use Rattle.format.specs.Number.{read_byte, read_low, read_high, read_bytes}

-- ---- a reader stays inside its input

abbrev pub Stays : {A : Type 0} → (List ℕ → Read A) → Type 0
Stays {A} reader = (s : List ℕ) (v : A) (n : ℕ) → reader s ≡ took v n → n ≤ length s

module _ {A : Type 0} where
  -- a read that stops takes nothing
  pub no_took : {P : Type 0} (e : Refusal) (v : A) (n : ℕ) → stops e ≡ took v n → P
  no_took e v n h = clash cc

  -- past a check that did not stop
  pub past : (b : Bool) (e : Refusal) (r : Read A) (v : A) (n : ℕ) → stop_if b e r ≡ took v n → (b ≡ false) × (r ≡ took v n)
  past true e r v n h = no_took e v n h
  past false e r v n h = (refl, h)

  -- what took is known of a fixed count
  counted : (w : ℕ) (x v : A) (s : List ℕ) (n : ℕ) → stop_if (ltb (length s) w) missing (took x w) ≡ took v n → n ≤ length s
  counted w x v s n h =
      let p = past (ltb (length s) w) missing (took x w) v n h in
      let q : w ≡ n = cc p.1 in
      omega (arith, ltb-false (length s) w p.0)

pub stays_byte : Stays read_byte
unfolding read_byte
stays_byte [] v n h = no_took missing v n h
stays_byte (b ∷ s) v n h = let q : 1 ≡ n = cc in omega arith

pub stays_low : (w : ℕ) → Stays (read_low w)
unfolding read_low
stays_low w s v n h = counted w _ v s n h

pub stays_high : (w : ℕ) → Stays (read_high w)
unfolding read_high
stays_high w s v n h = counted w _ v s n h

pub stays_bytes : (w : ℕ) → Stays (read_bytes w)
unfolding read_bytes
stays_bytes w s v n h = counted w _ v s n h

module _ {A B : Type 0} (f : A → B) where
  pub map-took : (r : Read A) (b : B) (n : ℕ) → map_read f r ≡ took b n → (a : A) × (r ≡ took a n) × (f a ≡ b)
  map-took (took a m) b n h =
      let p : f a ≡ b = cc in
      let q : m ≡ n = cc in
      (a, ap (took a) q, p)
  map-took (stops e) b n h = no_took e b n h

  pub stays_map : (reader : List ℕ → Read A) → Stays reader → Stays (λ s. map_read f (reader s))
  stays_map reader st s b n h = let p = map-took (reader s) b n h in st s p.0 n p.1

module _ {A B : Type 0} (reader : List ℕ → Read A) (next : A → List ℕ → Read B) where
  further-took : (n : ℕ) (r : Read B) (b : B) (m : ℕ) → further n r ≡ took b m → (k : ℕ) × (r ≡ took b k) × (n + k ≡ m)
  further-took n (took x k) b m h =
      let p : x ≡ b = cc in
      let q : n + k ≡ m = cc in
      (k, ap (λ (y : B). took y k) p, q)
  further-took n (stops e) b m h = no_took e b m h

  follow-took : (s : List ℕ) (r : Read A) (b : B) (m : ℕ) → follow r next s ≡ took b m →
      (a : A) × (n : ℕ) × (k : ℕ) × (r ≡ took a n) × (next a (drop n s) ≡ took b k) × (n + k ≡ m)
  follow-took s (took a n) b m h = let p = further-took n (next a (drop n s)) b m h in (a, n, p.0, refl, p.1, p.2)
  follow-took s (stops e) b m h = no_took e b m h

  -- what two readers one behind the other took
  pub then_took : (s : List ℕ) (b : B) (m : ℕ) → then_read reader next s ≡ took b m →
      (a : A) × (n : ℕ) × (k : ℕ) × (reader s ≡ took a n) × (next a (drop n s) ≡ took b k) × (n + k ≡ m)
  unfolding then_read
  then_took s b m h = follow-took s (reader s) b m h

  pub stays_then : Stays reader → ((a : A) → Stays (next a)) → Stays (then_read reader next)
  stays_then p q s b m h =
      let t = then_took s b m h in
      let i = p s t.0 t.1 t.3 in
      let j = q t.0 (drop t.1 s) b t.2 t.4 in
      let l = length-drop t.1 s in
      let e = t.5 in
      omega arith

-- ---- a place

module _ {A : Type 0} (reader : List ℕ → Read A) (s : List ℕ) (at : ℕ) where
  -- "A place behind the input's end is 1 before anything else."
  pub at_behind : length s < at → read_at reader s at ≡ stops missing
  unfolding read_at
  at_behind h = rw (lt-ltb (length s) at h)

  pub at_inside : at ≤ length s → read_at reader s at ≡ further at (reader (drop at s))
  unfolding read_at
  at_inside h = rw (le-ltb (length s) at h)

  -- by what the reader says of the bytes from the place on
  pub at_took : (v : A) (n : ℕ) → at ≤ length s → reader (drop at s) ≡ took v n → read_at reader s at ≡ took v (at + n)
  at_took v n h e = at_inside h ∙ ap (further at) e

  pub at_stops : (e : Refusal) → at ≤ length s → reader (drop at s) ≡ stops e → read_at reader s at ≡ stops e
  at_stops e h q = at_inside h ∙ ap (further at) q

  further_back : (r : Read A) (v : A) (m : ℕ) → further at r ≡ took v m → (n : ℕ) × (r ≡ took v n) × (at + n ≡ m)
  further_back (took x k) v m h =
      let p : x ≡ v = cc in
      let q : at + k ≡ m = cc in
      (k, ap (λ (y : A). took y k) p, q)
  further_back (stops e) v m h = no_took e v m h

  further-stops : (r : Read A) (e : Refusal) → further at r ≡ stops e → r ≡ stops e
  further-stops (took x k) e h = clash cc
  further-stops (stops d) e h = h

  -- what a read at a place took: the place was inside, and the reader said so of the rest
  pub took_at : (v : A) (m : ℕ) → read_at reader s at ≡ took v m → (at ≤ length s) × (n : ℕ) × (reader (drop at s) ≡ took v n) × (at + n ≡ m)
  unfolding read_at
  took_at v m h =
      let p = past (ltb (length s) at) missing (further at (reader (drop at s))) v m h in
      let q = further_back (reader (drop at s)) v m p.1 in
      (ltb-false _ _ p.0, q.0, q.1, q.2)

  -- the next place lies between the place and the input's end
  pub next_inside : Stays reader → (v : A) (m : ℕ) → read_at reader s at ≡ took v m → (at ≤ m) × (m ≤ length s)
  next_inside st v m h =
      let t = took_at v m h in
      let i = st (drop at s) v t.1 t.2 in
      let l = length-drop at s in
      let a = t.0 in
      let e = t.3 in
      (omega arith, omega arith)

module _ {A B : Type 0} (reader : List ℕ → Read A) (next : A → List ℕ → Read B) (s : List ℕ) (at : ℕ) where
  further-further : (n : ℕ) (r : Read B) → further at (further n r) ≡ further (at + n) r
  further-further n (took b k) = ap (took b) (sym (add_assoc at n k))
  further-further n (stops e) = refl

  -- the first took: the second reads on at its next place
  pub at_then : Stays reader → (v : A) (m : ℕ) → read_at reader s at ≡ took v m → read_at (then_read reader next) s at ≡ read_at (next v) s m
  unfolding then_read
  at_then st v m h =
      let t = took_at reader s at v m h in
      let i = next_inside reader s at st v m h in
      let e : at + t.1 ≡ m = t.3 in
      at_inside (then_read reader next) s at t.0
      ∙ (ap (λ (r : Read A). further at (follow r next (drop at s))) t.2
      ∙ (further-further t.1 (next v (drop t.1 (drop at s)))
      ∙ (ap (λ (l : List ℕ). further (at + t.1) (next v l)) (drop-drop t.1 at s)
      ∙ (ap (λ (n : ℕ). further n (next v (drop n s))) e
      ∙ sym (at_inside (next v) s m i.1)))))

  follow-stops : (r : Read A) (e : Refusal) → r ≡ stops e → follow r next (drop at s) ≡ stops e
  follow-stops (took a n) e h = clash cc
  follow-stops (stops d) e h = let q : d ≡ e = cc in ap stops q

  same_refusal : (d e : Refusal) → ◌≡◌ {A = Read A} (stops d) (stops e) → ◌≡◌ {A = Read B} (stops d) (stops e)
  same_refusal d e h = let q : d ≡ e = cc in ap stops q

  -- the first stopped: so do both
  pub at_then_stops : (e : Refusal) → read_at reader s at ≡ stops e → read_at (then_read reader next) s at ≡ stops e
  unfolding then_read
  at_then_stops e h = go (ltb (length s) at) refl
    where
      go : (b : Bool) → ltb (length s) at ≡ b → read_at (then_read reader next) s at ≡ stops e
      go true t =
          let q = ltb-true (length s) at t in
          at_behind (then_read reader next) s at q ∙ same_refusal missing e (sym (at_behind reader s at q) ∙ h)
      go false t =
          let q = ltb-false (length s) at t in
          let r = further-stops reader s at (reader (drop at s)) e (sym (at_inside reader s at q) ∙ h) in
          at_inside (then_read reader next) s at q ∙ ap (further at) (follow-stops (reader (drop at s)) e r)

-- a reader whose value is turned into another
module _ {A B : Type 0} (f : A → B) (reader : List ℕ → Read A) (s : List ℕ) (at : ℕ) where
  further-map : (r : Read A) → further at (map_read f r) ≡ map_read f (further at r)
  further-map (took v n) = refl
  further-map (stops e) = refl

  at_map : read_at (λ (l : List ℕ). map_read f (reader l)) s at ≡ map_read f (read_at reader s at)
  unfolding read_at
  at_map = go (ltb (length s) at)
    where
      go : (b : Bool) →
          pick b (stops missing) (further at (map_read f (reader (drop at s)))) ≡ map_read f (pick b (stops missing) (further at (reader (drop at s))))
      go true = refl
      go false = further-map (reader (drop at s))

  pub at_map-took : (v : A) (m : ℕ) → read_at reader s at ≡ took v m → read_at (λ (l : List ℕ). map_read f (reader l)) s at ≡ took (f v) m
  at_map-took v m h = at_map ∙ ap (map_read f) h

  pub at_map-stops : (e : Refusal) → read_at reader s at ≡ stops e → read_at (λ (l : List ℕ). map_read f (reader l)) s at ≡ stops e
  at_map-stops e h = at_map ∙ ap (map_read f) h

-- a reader that goes by a test, and takes nothing where it fails
module _ {A : Type 0} (b : Bool) (reader : List ℕ → Read A) (v : A) (s : List ℕ) (at : ℕ) where
  pub at_taken : b ≡ true → read_at (λ (l : List ℕ). pick b (reader l) (took v 0)) s at ≡ read_at reader s at
  at_taken h = ap (λ (t : Bool). read_at (λ (l : List ℕ). pick t (reader l) (took v 0)) s at) h

  pub at_left : b ≡ false → at ≤ length s → read_at (λ (l : List ℕ). pick b (reader l) (took v 0)) s at ≡ took v at
  at_left h i =
      ap (λ (t : Bool). read_at (λ (l : List ℕ). pick t (reader l) (took v 0)) s at) h
      ∙ (at_took (λ (l : List ℕ). took v 0) s at v 0 i refl ∙ ap (took v) (add-zero at))
