-- "An answer other than refusal 1 does not change when more bytes follow": a caller who gets 1 may wait for bytes and ask again, and need not for any other.
-- A reader looks at bytes behind a test that they are there; where the test fails it answers 1. So whatever else it answers goes by bytes that are there, and
-- bytes behind them are not looked at. One reader behind another is given the bytes that the first left, with more behind them.
-- Assumes nothing.
use mathlib.Core.Path.{◌≡◌, refl, ap, sym, ◌∙◌}
use mathlib.Core.List.{List, [], ◌∷◌, ◌++◌}
use mathlib.Core.Bool.{Bool, true, false}
use Prim.Native.Nat.{ℕ, ◌≤◌}
use native.Mathlib.Omega.{arith}
use lib.ListN.{length, take, drop, length-append}
use lib.Seq.{take-append-le, drop-append-le}
use lib.Dec.{ltb}
use borrow.Author.Tests.{le-ltb, ltb-true, ltb-false}
use Rattle.lists.specs.Pick.{pick}
use Rattle.format.specs.Answer.{Refusal, missing, Read, took, stops, stop_if, further, follow, then_read, map_read, read_at, fitted_read}
use Rattle.format.specs.Number.{low_nat, high_nat, read_bytes, read_byte, read_low, read_high}
use Rattle.format.proofs.Place.{Stays, no_took, at_behind, at_inside, stays_byte, stays_low, stays_high, stays_bytes, stays_map, stays_then}

-- ---- the law

abbrev pub Steady : {A : Type 0} → (List ℕ → Read A) → Type 0
Steady {A} reader = (s more : List ℕ) → (reader s ≡ stops missing → ⊥) → reader (s ++ more) ≡ reader s

-- a reader that is steady and stays inside its input
pub record Streams {A : Type 0} (reader : List ℕ → Read A) : Type 0 where
  pub stays : Stays reader
  pub steady : Steady reader

-- ---- bytes and numbers

pub steady_byte : Steady read_byte
unfolding read_byte
steady_byte [] more h = absurd (h refl)
steady_byte (b ∷ s) more h = refl

-- w bytes, told as something
module _ {A : Type 0} (w : ℕ) (f : List ℕ → A) where
  abbrev taking : List ℕ → Read A
  taking s = stop_if (ltb (length s) w) missing (took (f (take w s)) w)

  steady_taking : Steady taking
  steady_taking s more h = go (ltb (length s) w) refl
    where
      go : (b : Bool) → ltb (length s) w ≡ b → taking (s ++ more) ≡ taking s
      go true t = absurd (h (rw t))
      go false t =
          let i : w ≤ length s = ltb-false (length s) w t in
          let l : ltb (length (s ++ more)) w ≡ false = le-ltb (length (s ++ more)) w (omega (arith, length-append s more)) in
          rw (t, l, take-append-le w s more i)

pub steady_bytes : (w : ℕ) → Steady (read_bytes w)
unfolding read_bytes
steady_bytes w = steady_taking w (λ (l : List ℕ). l)

pub steady_low : (w : ℕ) → Steady (read_low w)
unfolding read_low
steady_low w = steady_taking w low_nat

pub steady_high : (w : ℕ) → Steady (read_high w)
unfolding read_high
steady_high w = steady_taking w high_nat

-- ---- readers of readers

-- a reader that looks at no byte
pub steady_none : {A : Type 0} (r : Read A) → Steady (λ (s : List ℕ). r)
steady_none r s more h = refl

module _ {A B : Type 0} (f : A → B) (reader : List ℕ → Read A) where
  pub steady_map : Steady reader → Steady (λ (s : List ℕ). map_read f (reader s))
  steady_map p s more h = ap (map_read f) (p s more (λ e. h (ap (map_read f) e)))

-- a test that does not look at the bytes
pub steady_pick : {A : Type 0} (b : Bool) (x y : List ℕ → Read A) → Steady x → Steady y → Steady (λ (s : List ℕ). pick b (x s) (y s))
steady_pick true x y p q s more h = p s more h
steady_pick false x y p q s more h = q s more h

module _ {A B : Type 0} (reader : List ℕ → Read A) (next : A → List ℕ → Read B) where
  behind : (s more : List ℕ) → Stays reader → ((a : A) → Steady (next a)) → (r : Read A) → reader s ≡ r
      → (follow r next s ≡ stops missing → ⊥) → follow r next (s ++ more) ≡ follow r next s
  behind s more i q (took a n) e h =
      let d : drop n (s ++ more) ≡ drop n s ++ more = drop-append-le n s more (i s a n e) in
      let t : next a (drop n s ++ more) ≡ next a (drop n s) = q a (drop n s) more (λ z. h (ap (further n) z)) in
      rw (d, t)
  behind s more i q (stops d) e h = refl

  first_there : (s : List ℕ) → (then_read reader next s ≡ stops missing → ⊥) → reader s ≡ stops missing → ⊥
  unfolding then_read
  first_there s h e = h (ap (λ (r : Read A). follow r next s) e)

  pub steady_then : Stays reader → Steady reader → ((a : A) → Steady (next a)) → Steady (then_read reader next)
  unfolding then_read
  steady_then i p q s more h =
      ap (λ (r : Read A). follow r next (s ++ more)) (p s more (first_there s h)) ∙ behind s more i q (reader s) refl h

-- "every reader hands back a cursor": at a place of the input
module _ {A : Type 0} (reader : List ℕ → Read A) (at : ℕ) where
  pub steady_at : Steady reader → Steady (λ (s : List ℕ). read_at reader s at)
  steady_at p s more h = go (ltb (length s) at) refl
    where
      go : (b : Bool) → ltb (length s) at ≡ b → read_at reader (s ++ more) at ≡ read_at reader s at
      go true t = absurd (h (at_behind reader s at (ltb-true (length s) at t)))
      go false t =
          let i = ltb-false (length s) at t in
          let l = length-append s more in
          let e = at_inside reader s at i in
          let d : drop at (s ++ more) ≡ drop at s ++ more = drop-append-le at s more i in
          let u : reader (drop at s ++ more) ≡ reader (drop at s) = p (drop at s) more (λ z. h (e ∙ ap (further at) z)) in
          at_inside reader (s ++ more) at (omega arith) ∙ (rw (d, u) (sym e))

-- with a room: 4 comes last
module _ {A : Type 0} (copied : A → List ℕ) (reader : List ℕ → Read A) (size : ℕ) where
  pub steady_fitted : Steady reader → Steady (λ (s : List ℕ). fitted_read copied (reader s) size)
  unfolding fitted_read
  steady_fitted p s more h = ap (λ (r : Read A). fitted_read copied r size) (p s more (λ e. h (ap (λ (r : Read A). fitted_read copied r size) e)))

-- ---- both at once

pub stream_byte : Streams read_byte
stream_byte = record { stays = stays_byte; steady = steady_byte }

pub stream_low : (w : ℕ) → Streams (read_low w)
stream_low w = record { stays = stays_low w; steady = steady_low w }

pub stream_high : (w : ℕ) → Streams (read_high w)
stream_high w = record { stays = stays_high w; steady = steady_high w }

pub stream_bytes : (w : ℕ) → Streams (read_bytes w)
stream_bytes w = record { stays = stays_bytes w; steady = steady_bytes w }

pub stream_took : {A : Type 0} (v : A) → Streams (λ (s : List ℕ). took v 0)
stream_took v = record { stays = λ s x n h. let q : 0 ≡ n = cc in omega arith; steady = steady_none (took v 0) }

pub stream_stops : {A : Type 0} (e : Refusal) → Streams {A = A} (λ (s : List ℕ). stops e)
stream_stops e = record { stays = λ s x n h. no_took e x n h; steady = steady_none (stops e) }

pub stream_map : {A B : Type 0} (f : A → B) (reader : List ℕ → Read A) → Streams reader → Streams (λ (s : List ℕ). map_read f (reader s))
stream_map f reader p = record { stays = stays_map f reader p.stays; steady = steady_map f reader p.steady }

stays_pick : {A : Type 0} (b : Bool) (x y : List ℕ → Read A) → Stays x → Stays y → Stays (λ (s : List ℕ). pick b (x s) (y s))
stays_pick true x y p q = p
stays_pick false x y p q = q

pub stream_pick : {A : Type 0} (b : Bool) (x y : List ℕ → Read A) → Streams x → Streams y → Streams (λ (s : List ℕ). pick b (x s) (y s))
stream_pick b x y p q = record { stays = stays_pick b x y p.stays q.stays; steady = steady_pick b x y p.steady q.steady }

pub stream_stop : {A : Type 0} (b : Bool) (e : Refusal) (x : List ℕ → Read A) → Streams x → Streams (λ (s : List ℕ). stop_if b e (x s))
stream_stop b e x p = stream_pick b (λ s. stops e) x (stream_stops e) p

module _ {A B : Type 0} (reader : List ℕ → Read A) (next : A → List ℕ → Read B) where
  pub stream_then : Streams reader → ((a : A) → Streams (next a)) → Streams (then_read reader next)
  stream_then p q = record {
    stays = stays_then reader next p.stays (λ a. (q a).stays);
    steady = steady_then reader next p.stays p.steady (λ a. (q a).steady);
  }
