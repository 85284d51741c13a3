-- The values of a fixed width, each kind's bytes and back: `codec k` for every kind k.
--   again: a value of the kind, in its range, written and with any bytes behind it, reads as itself and ends at its width;
--   fits:  what was read of bytes is of the kind and in its range;
--   short: it takes its width again, no byte more.
-- A bit is its truth, whatever byte it came as; a float is its bits; a whole number is two's complement at its width; a GUID is its sixteen bytes.
-- Assumes nothing.
use mathlib.Core.Path.{◌≡◌, refl, ap, ◌∙◌}
use mathlib.Core.List.{List, [], ◌∷◌, ◌++◌}
use mathlib.Core.Bool.{Bool, true, false}
use Prim.Native.Nat.{ℕ, ◌+◌, ◌/◌, ◌^◌, ◌<◌, ◌≤◌}
use native.Mathlib.Omega.{arith}
use lib.ListN.{length}
use lib.Dec.{ltb}
use lib.IntN.{ℤ, pos, negsuc}
use borrow.Author.Tests.{ltb-true, ltb-false}
use Rattle.format.specs.Answer.{took}
use Rattle.format.specs.Number.{low_nat, low_bytes, signed, unsigned, read_bytes}
use Rattle.format.specs.Guid.{guid_order}
use Rattle.format.specs.Scalar.{Kind, Scalar, width, kind_of, scalar_of, scalar_bytes, read_scalar}
use Rattle.format.proofs.Number.{Bytes, Signed, half, low_back, low-lt, signed_back}
use Rattle.format.proofs.Guid.{guid_back_lem}
use Rattle.format.proofs.Place.{map-took}
use Rattle.format.proofs.Plain.{bytes_take, bytes_again, bytes-took}
use Rattle.format.proofs.Codec.{Codec}

-- The range of a value of its kind.
abbrev pub InRange : Scalar → Type 0
InRange (Scalar.bit b) = Unit {0}
InRange (Scalar.u8 n) = n < 256 ^ 1
InRange (Scalar.i16 z) = Signed 2 z
InRange (Scalar.i32 z) = Signed 4 z
InRange (Scalar.i64 z) = Signed 8 z
InRange (Scalar.f32 n) = n < 256 ^ 4
InRange (Scalar.f64 n) = n < 256 ^ 8
InRange (Scalar.guid s) = length s ≡ 16

-- A value of the kind, in its range.
abbrev pub Fit : Kind → Scalar → Type 0
Fit k v = (kind_of v ≡ k) × InRange v

-- ---- two's complement and GUIDs

-- a number of w bytes is a whole number of w bytes, and the other way round
pub signed_in : (w n : ℕ) → 0 < w → n < 256 ^ w → Signed w (signed w n)
unfolding signed
signed_in w n p h = go (ltb n (256 ^ w / 2)) refl
  where
    go : (b : Bool) → ltb n (256 ^ w / 2) ≡ b → Signed w (signed w n)
    go true e = rw e (ltb-true n (256 ^ w / 2) e)
    go false e = rw e (omega (arith, half w p, ltb-false n (256 ^ w / 2) e))

pub unsigned_in : (w : ℕ) (z : ℤ) → Signed w z → unsigned w z < 256 ^ w
unfolding unsigned
unsigned_in w (pos n) h = omega arith
unsigned_in w (negsuc k) h = omega arith

pub length-guid : (s : List ℕ) → length (guid_order s) ≡ length s
unfolding guid_order
length-guid [] = refl
length-guid (a ∷ []) = refl
length-guid (a ∷ b ∷ []) = refl
length-guid (a ∷ b ∷ c ∷ []) = refl
length-guid (a ∷ b ∷ c ∷ d ∷ []) = refl
length-guid (a ∷ b ∷ c ∷ d ∷ e ∷ []) = refl
length-guid (a ∷ b ∷ c ∷ d ∷ e ∷ f ∷ []) = refl
length-guid (a ∷ b ∷ c ∷ d ∷ e ∷ f ∷ g ∷ []) = refl
length-guid (a ∷ b ∷ c ∷ d ∷ e ∷ f ∷ g ∷ h ∷ rest) = refl

-- ---- the bytes of a value

pub length-scalar : (v : Scalar) → InRange v → length (scalar_bytes v) ≡ width (kind_of v)
unfolding scalar_bytes
length-scalar (Scalar.bit b) h = refl
length-scalar (Scalar.u8 n) h = refl
length-scalar (Scalar.i16 z) h = refl
length-scalar (Scalar.i32 z) h = refl
length-scalar (Scalar.i64 z) h = refl
length-scalar (Scalar.f32 n) h = refl
length-scalar (Scalar.f64 n) h = refl
length-scalar (Scalar.guid s) h = length-guid s ∙ h

-- they stand for the value
whole_back : (w : ℕ) (z : ℤ) → 0 < w → Signed w z → signed w (low_nat (low_bytes w (unsigned w z))) ≡ z
whole_back w z p h = ap (signed w) (low_back w (unsigned w z) (unsigned_in w z h)) ∙ signed_back w z p h

pub scalar_back_lem : (v : Scalar) → InRange v → scalar_of (kind_of v) (scalar_bytes v) ≡ v
unfolding scalar_of scalar_bytes
scalar_back_lem (Scalar.bit true) h = refl
scalar_back_lem (Scalar.bit false) h = refl
scalar_back_lem (Scalar.u8 n) h = ap Scalar.u8 (low_back 1 n h)
scalar_back_lem (Scalar.i16 z) h = ap Scalar.i16 (whole_back 2 z (omega arith) h)
scalar_back_lem (Scalar.i32 z) h = ap Scalar.i32 (whole_back 4 z (omega arith) h)
scalar_back_lem (Scalar.i64 z) h = ap Scalar.i64 (whole_back 8 z (omega arith) h)
scalar_back_lem (Scalar.f32 n) h = ap Scalar.f32 (low_back 4 n h)
scalar_back_lem (Scalar.f64 n) h = ap Scalar.f64 (low_back 8 n h)
scalar_back_lem (Scalar.guid s) h = ap Scalar.guid (guid_back_lem s)

-- what so many bytes stand for is of the kind and in its range
number_in : (w : ℕ) (s : List ℕ) → Bytes s → length s ≡ w → low_nat s < 256 ^ w
number_in w s b l = rw l at (low-lt s b)

pub scalar_fits : (k : Kind) (s : List ℕ) → Bytes s → length s ≡ width k → Fit k (scalar_of k s)
unfolding scalar_of
scalar_fits Kind.bit s b l = (refl, tt)
scalar_fits Kind.u8 s b l = (refl, number_in 1 s b l)
scalar_fits Kind.i16 s b l = (refl, signed_in 2 (low_nat s) (omega arith) (number_in 2 s b l))
scalar_fits Kind.i32 s b l = (refl, signed_in 4 (low_nat s) (omega arith) (number_in 4 s b l))
scalar_fits Kind.i64 s b l = (refl, signed_in 8 (low_nat s) (omega arith) (number_in 8 s b l))
scalar_fits Kind.f32 s b l = (refl, number_in 4 s b l)
scalar_fits Kind.f64 s b l = (refl, number_in 8 s b l)
scalar_fits Kind.guid s b l = (refl, length-guid s ∙ l)

-- ---- the codec of a kind

again : (k : Kind) (v : Scalar) (rest : List ℕ) → Fit k v → read_scalar k (scalar_bytes v ++ rest) ≡ took v (length (scalar_bytes v))
unfolding read_scalar
again k v rest f =
    let l = length-scalar v f.1 in
    let e = bytes_again (scalar_bytes v) rest in
    rw (← f.0, ← l, e, scalar_back_lem v f.1)

-- what was read of bytes, and how many it took
took-scalar : (k : Kind) (s : List ℕ) (v : Scalar) (n : ℕ) → Bytes s → read_scalar k s ≡ took v n → Fit k v × (width k ≡ n)
unfolding read_scalar
took-scalar k s v n b h =
    let p = map-took (scalar_of k) (read_bytes (width k) s) v n h in
    let q = bytes-took (width k) s p.0 n p.1 in
    let c : Bytes p.0 = rw (← q.0) (bytes_take (width k) s b) in
    (rw (← p.2) (scalar_fits k p.0 c q.2), q.1)

short : (k : Kind) (s : List ℕ) (v : Scalar) (n : ℕ) → Bytes s → read_scalar k s ≡ took v n → length (scalar_bytes v) ≤ n + 0
short k s v n b h =
    let p = took-scalar k s v n b h in
    let l = length-scalar v p.0.1 in
    let w = ap width p.0.0 in
    let e = p.1 in
    omega arith

pub codec : (k : Kind) → Codec (read_scalar k) scalar_bytes (Fit k) 0
codec k = record { again = again k; fits = λ s v n b h. (took-scalar k s v n b h).0; short = short k }
