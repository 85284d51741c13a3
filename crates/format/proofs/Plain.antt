-- The readers of a byte, of so many bytes and of a number: what they say of what was written, and what they took.
-- Assumes nothing.
use mathlib.Core.Path.{◌≡◌}
use mathlib.Core.List.{List, [], ◌∷◌, ◌++◌}
use mathlib.Core.Bool.{false}
use Prim.Native.Nat.{ℕ, zero, suc, ◌+◌, ◌/◌, ◌^◌, ◌<◌}
use native.Mathlib.Omega.{arith}
use lib.ListN.{length, take, drop, length-append}
use lib.Seq.{get_or-drop, take-append_seam, length-take-le}
use lib.Dec.{ltb}
use borrow.Author.Tests.{le-ltb, ltb-false}
use Rattle.format.specs.Answer.{took, missing}
use Rattle.format.specs.Number.{low_nat, low_bytes, read_bytes, read_byte, read_low}
use Rattle.format.proofs.Number.{Bytes, length-low, low_back}
use Rattle.format.proofs.Place.{past, no_took}

-- ---- parts of bytes are bytes

pub bytes_drop : (n : ℕ) (s : List ℕ) → Bytes s → Bytes (drop n s)
bytes_drop n s b i = rw (get_or-drop n s i 0) (b (n + i))

pub bytes_take : (n : ℕ) (s : List ℕ) → Bytes s → Bytes (take n s)
bytes_take zero s b i = omega arith
bytes_take (suc n) [] b i = omega arith
bytes_take (suc n) (x ∷ xs) b zero = b 0
bytes_take (suc n) (x ∷ xs) b (suc i) = bytes_take n xs (λ j. b (suc j)) i

pub bytes-append : (s t : List ℕ) → Bytes s → Bytes t → Bytes (s ++ t)
bytes-append [] t b c i = c i
bytes-append (x ∷ s) t b c zero = b 0
bytes-append (x ∷ s) t b c (suc i) = bytes-append s t (λ j. b (suc j)) c i

pub bytes_low : (w n : ℕ) → Bytes (low_bytes w n)
bytes_low zero n i = omega arith
bytes_low (suc w) n zero = omega arith
bytes_low (suc w) n (suc i) = bytes_low w (n / 256) i

-- ---- what was written, with anything behind it

pub bytes_again : (c rest : List ℕ) → read_bytes (length c) (c ++ rest) ≡ took c (length c)
unfolding read_bytes
bytes_again c rest =
    let l = length-append c rest in
    let t : ltb (length (c ++ rest)) (length c) ≡ false = le-ltb (length (c ++ rest)) (length c) (omega arith) in
    rw (t, take-append_seam c rest)

pub low_again : (w n : ℕ) (rest : List ℕ) → n < 256 ^ w → read_low w (low_bytes w n ++ rest) ≡ took n (length (low_bytes w n))
unfolding read_low
low_again w n rest h =
    let e = length-low w n in
    let l = length-append (low_bytes w n) rest in
    let t : ltb (length (low_bytes w n ++ rest)) w ≡ false = le-ltb (length (low_bytes w n ++ rest)) w (omega arith) in
    let f : take w (low_bytes w n ++ rest) ≡ low_bytes w n = rw e at (take-append_seam (low_bytes w n) rest) in
    rw (t, f, low_back w n h, e)

-- ---- what was read

pub bytes-took : (w : ℕ) (s c : List ℕ) (n : ℕ) → read_bytes w s ≡ took c n → (take w s ≡ c) × (w ≡ n) × (length c ≡ w)
unfolding read_bytes
bytes-took w s c n h =
    let p = past (ltb (length s) w) missing (took (take w s) w) c n h in
    let e : take w s ≡ c = cc p.1 in
    let q : w ≡ n = cc p.1 in
    (e, q, rw (← e) (length-take-le w s (ltb-false (length s) w p.0)))

pub low-took : (w : ℕ) (s : List ℕ) (v n : ℕ) → read_low w s ≡ took v n → n ≡ w
unfolding read_low
low-took w s v n h = let p = past (ltb (length s) w) missing (took (low_nat (take w s)) w) v n h in cc p.1

pub byte-took : (s : List ℕ) (v n : ℕ) → read_byte s ≡ took v n → n ≡ 1
unfolding read_byte
byte-took [] v n h = no_took missing v n h
byte-took (b ∷ s) v n h = cc
