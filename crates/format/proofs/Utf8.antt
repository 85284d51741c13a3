-- One character of UTF-8: its bytes are read back as the character, and what is read as a character is its bytes. By the rows of table 3-7, each a range of
-- first and second bytes that is the range of the scalar values whose bytes begin so.
-- Assumes nothing.
use mathlib.Core.Path.{◌≡◌, refl, ap, ◌∙◌}
use mathlib.Core.List.{List, [], ◌∷◌, ◌++◌}
use Prim.Native.Nat.{ℕ, zero, suc, ◌+◌, ◌*◌, ◌-◌, ◌/◌, ◌%◌, ◌<◌, ◌≤◌}
use native.Mathlib.Omega.{arith}
use lib.ListN.{length}
use lib.Dec.{ltb}
use borrow.Author.Tests.{lt-ltb, le-ltb, ltb-true}
use Rattle.lists.proofs.Split.{split}
use Rattle.format.specs.Answer.{took, not_text}
use Rattle.format.specs.Text.{between, Row, well_formed, tail8, second8, among8, char8, utf8}
use Rattle.format.proofs.Place.{no_took}
use Rattle.format.proofs.Characters.{between_in, between-above, in_between, less, Scalar, below, above, Forth, forth_is}

-- ---- UTF-8: the table's row by the first byte, then byte by byte

-- the rows before the k-th end below the byte
abbrev Past : ℕ → List Row → ℕ → Type 0
Past zero rs a = Unit {0}
Past (suc k) [] a = ⊥
Past (suc k) (r ∷ rs) a = (r.last < a) × Past k rs a

-- the byte lies in the k-th row
abbrev Within : ℕ → List Row → ℕ → Type 0
Within k [] a = ⊥
Within zero (r ∷ rs) a = (r.first ≤ a) × (a ≤ r.last)
Within (suc k) (r ∷ rs) a = Within k rs a

abbrev pub row_at : ℕ → List Row → Row
row_at k [] = record { first = 0; last = 0; marker = 0; low = 0; high = 0; more = 0 }
row_at zero (r ∷ rs) = r
row_at (suc k) (r ∷ rs) = row_at k rs

module _ (a : ℕ) (s : List ℕ) where
  chosen : (k : ℕ) (rs : List Row) → Past k rs a → Within k rs a → among8 rs a s ≡ second8 (row_at k rs) a s
  chosen zero [] p w = absurd w
  chosen (suc k) [] p w = absurd w
  chosen zero (r ∷ rs) p w = rw (between_in r.first r.last a w.0 w.1)
  chosen (suc k) (r ∷ rs) p w = rw (between-above r.first r.last a p.0) (chosen k rs p.1 w)

  pub first_ascii : a < 0x80 → char8 (a ∷ s) ≡ took a 1
  unfolding char8
  first_ascii h = rw (lt-ltb a 0x80 h)

  pub first_other : 0x80 ≤ a → char8 (a ∷ s) ≡ among8 well_formed a s
  unfolding char8
  first_other h = rw (le-ltb a 0x80 h)

  second_in : (r : Row) (b : ℕ) → r.low ≤ b → b ≤ r.high → second8 r a (b ∷ s) ≡ tail8 r.more ((a - r.marker) * 64 + (b - 0x80)) 2 s
  second_in r b h k = rw (between_in r.low r.high b h k)

tail_in : (m n k b : ℕ) (s : List ℕ) → 0x80 ≤ b → b ≤ 0xBF → tail8 (suc m) n k (b ∷ s) ≡ tail8 m (n * 64 + (b - 0x80)) (suc k) s
tail_in m n k b s h l = rw (between_in 0x80 0xBF b h l)

-- the characters of two, three and four bytes, by the row that the first byte chooses
module _ (k a b : ℕ) (p : Past k well_formed a) (w : Within k well_formed a) (f : 0x80 ≤ a) (l : (row_at k well_formed).low ≤ b)
    (h : b ≤ (row_at k well_formed).high) where
  abbrev second : ℕ
  second = (a - (row_at k well_formed).marker) * 64 + (b - 0x80)

  past_second : (s : List ℕ) → char8 (a ∷ b ∷ s) ≡ tail8 (row_at k well_formed).more second 2 s
  past_second s = first_other a (b ∷ s) f ∙ (chosen a (b ∷ s) k well_formed p w ∙ second_in a s (row_at k well_formed) b l h)

  two : (s : List ℕ) → (row_at k well_formed).more ≡ 0 → char8 (a ∷ b ∷ s) ≡ took second 2
  two s e = past_second s ∙ rw e

  three : (d : ℕ) (s : List ℕ) → (row_at k well_formed).more ≡ 1 → 0x80 ≤ d → d ≤ 0xBF → char8 (a ∷ b ∷ d ∷ s) ≡ took (second * 64 + (d - 0x80)) 3
  three d s e m n = past_second (d ∷ s) ∙ rw e (tail_in 0 second 2 d s m n)

  four : (d x : ℕ) (s : List ℕ) → (row_at k well_formed).more ≡ 2 → 0x80 ≤ d → d ≤ 0xBF → 0x80 ≤ x → x ≤ 0xBF →
      char8 (a ∷ b ∷ d ∷ x ∷ s) ≡ took ((second * 64 + (d - 0x80)) * 64 + (x - 0x80)) 4
  four d x s e m n o q = past_second (d ∷ x ∷ s) ∙ rw e (tail_in 1 second 2 d (x ∷ s) m n ∙ tail_in 0 (second * 64 + (d - 0x80)) 3 x s o q)

-- ---- UTF-8: the bytes of a scalar value

module _ (c : ℕ) where
  pub utf8_one : c < 0x80 → utf8 c ≡ c ∷ []
  unfolding utf8
  utf8_one h = rw (lt-ltb c 0x80 h)

  pub utf8_two : 0x80 ≤ c → c < 0x800 → utf8 c ≡ (0xC0 + c / 64) ∷ (0x80 + c % 64) ∷ []
  unfolding utf8
  utf8_two h k = rw (le-ltb c 0x80 h, lt-ltb c 0x800 k)

  pub utf8_three : 0x800 ≤ c → c < 0x10000 → utf8 c ≡ (0xE0 + c / 4096) ∷ (0x80 + c / 64 % 64) ∷ (0x80 + c % 64) ∷ []
  unfolding utf8
  utf8_three h k = rw (le-ltb c 0x80 (omega arith), le-ltb c 0x800 h, lt-ltb c 0x10000 k)

  pub utf8_four : 0x10000 ≤ c → utf8 c ≡ (0xF0 + c / 262144) ∷ (0x80 + c / 4096 % 64) ∷ (0x80 + c / 64 % 64) ∷ (0x80 + c % 64) ∷ []
  unfolding utf8
  utf8_four h = rw (le-ltb c 0x80 (omega arith), le-ltb c 0x800 (omega arith), le-ltb c 0x10000 h)

  module _ (s : List ℕ) where
    abbrev Back8 : Type 0
    Back8 = char8 (utf8 c ++ s) ≡ took c (length (utf8 c))

    back_one : c < 0x80 → Back8
    back_one h = rw (utf8_one h) (first_ascii c s h)

    back_two : 0x80 ≤ c → c < 0x800 → Back8
    back_two h k =
        let e : (0xC0 + c / 64 - 0xC0) * 64 + (0x80 + c % 64 - 0x80) ≡ c = omega arith in
        rw (utf8_two h k) (two 0 (0xC0 + c / 64) (0x80 + c % 64) tt (omega arith) (omega arith) (omega arith) (omega arith) s refl ∙ rw e)

    back_three : (k : ℕ) → 0x800 ≤ c → c < 0x10000 → (row_at k well_formed).marker ≡ 0xE0 → (row_at k well_formed).more ≡ 1 →
        Past k well_formed (0xE0 + c / 4096) → Within k well_formed (0xE0 + c / 4096)
        → (row_at k well_formed).low ≤ 0x80 + c / 64 % 64 → 0x80 + c / 64 % 64 ≤ (row_at k well_formed).high → Back8
    back_three k h j m e p w l g =
        let v : ((0xE0 + c / 4096 - 0xE0) * 64 + (0x80 + c / 64 % 64 - 0x80)) * 64 + (0x80 + c % 64 - 0x80) ≡ c = omega arith in
        rw (utf8_three h j) (three k (0xE0 + c / 4096) (0x80 + c / 64 % 64) p w (omega arith) l g (0x80 + c % 64) s e (omega arith) (omega arith) ∙ rw (m, v))

    back_four : (k : ℕ) → 0x10000 ≤ c → (row_at k well_formed).marker ≡ 0xF0 → (row_at k well_formed).more ≡ 2 → Past k well_formed (0xF0 + c / 262144) →
        Within k well_formed (0xF0 + c / 262144)
        → (row_at k well_formed).low ≤ 0x80 + c / 4096 % 64 → 0x80 + c / 4096 % 64 ≤ (row_at k well_formed).high → Back8
    back_four k h m e p w l g =
        let x : c / 262144 * 64 + c / 4096 % 64 ≡ c / 4096 = omega arith in
        let y : c / 4096 * 64 + c / 64 % 64 ≡ c / 64 = omega arith in
        let v : (((0xF0 + c / 262144 - 0xF0) * 64 + (0x80 + c / 4096 % 64 - 0x80)) * 64 + (0x80 + c / 64 % 64 - 0x80)) * 64 + (0x80 + c % 64 - 0x80) ≡ c =
        omega arith in
        rw (utf8_four h)
        (four k (0xF0 + c / 262144) (0x80 + c / 4096 % 64) p w (omega arith) l g (0x80 + c / 64 % 64) (0x80 + c % 64) s e (omega arith) (omega arith)
        (omega arith) (omega arith) ∙ rw (m, v))

-- a character's bytes are read back
pub char8_back : (c : ℕ) (s : List ℕ) → Scalar c → char8 (utf8 c ++ s) ≡ took c (length (utf8 c))
char8_back c s (below h) =
    less c 0x80 (λ i. back_one c s i)
    (λ i. less c 0x800 (λ j. back_two c s i j)
    (λ j. less c 0x1000 (λ k. back_three c s 1 j (omega arith) refl refl (omega arith) (omega arith) (omega arith) (omega arith))
    (λ k. less c 0xD000 (λ l. back_three c s 2 j (omega arith) refl refl (omega arith) (omega arith) (omega arith) (omega arith))
    (λ l. back_three c s 3 j (omega arith) refl refl (omega arith) (omega arith) (omega arith) (omega arith)))))
char8_back c s (above h i) =
    less c 0x10000 (λ j. back_three c s 4 (omega arith) j refl refl (omega arith) (omega arith) (omega arith) (omega arith))
    (λ j. less c 0x40000 (λ k. back_four c s 5 j refl refl (omega arith) (omega arith) (omega arith) (omega arith))
    (λ k. less c 0x100000 (λ l. back_four c s 6 j refl refl (omega arith) (omega arith) (omega arith) (omega arith))
    (λ l. back_four c s 7 j refl refl (omega arith) (omega arith) (omega arith) (omega arith))))

-- ---- UTF-8: what is read is a scalar value's bytes

-- the bytes of two, three and four that are well formed are their value's
two_is : (a b : ℕ) → 0xC2 ≤ a → a ≤ 0xDF → 0x80 ≤ b → b ≤ 0xBF → utf8 ((a - 0xC0) * 64 + (b - 0x80)) ≡ a ∷ b ∷ []
two_is a b f e l h =
    let c = (a - 0xC0) * 64 + (b - 0x80) in
    let x : 0xC0 + c / 64 ≡ a = omega arith in
    let y : 0x80 + c % 64 ≡ b = omega arith in
    utf8_two c (omega arith) (omega arith) ∙ rw (x, y)

three_is : (a b d : ℕ) → 0xE0 ≤ a → a ≤ 0xEF → 0x80 ≤ b → b ≤ 0xBF → 0x80 ≤ d → d ≤ 0xBF →
    0x800 ≤ ((a - 0xE0) * 64 + (b - 0x80)) * 64 + (d - 0x80) → utf8 (((a - 0xE0) * 64 + (b - 0x80)) * 64 + (d - 0x80)) ≡ a ∷ b ∷ d ∷ []
three_is a b d f e l h m o g =
    let c = ((a - 0xE0) * 64 + (b - 0x80)) * 64 + (d - 0x80) in
    let x : 0xE0 + c / 4096 ≡ a = omega arith in
    let y : 0x80 + c / 64 % 64 ≡ b = omega arith in
    let z : 0x80 + c % 64 ≡ d = omega arith in
    utf8_three c g (omega arith) ∙ rw (x, y, z)

four_is : (a b d t : ℕ) → 0xF0 ≤ a → 0x80 ≤ b → b ≤ 0xBF → 0x80 ≤ d → d ≤ 0xBF → 0x80 ≤ t → t ≤ 0xBF →
    0x10000 ≤ (((a - 0xF0) * 64 + (b - 0x80)) * 64 + (d - 0x80)) * 64 + (t - 0x80)
    → utf8 ((((a - 0xF0) * 64 + (b - 0x80)) * 64 + (d - 0x80)) * 64 + (t - 0x80)) ≡ a ∷ b ∷ d ∷ t ∷ []
four_is a b d t f l h m o i j g =
    let v = (a - 0xF0) * 64 + (b - 0x80) in
    let w = v * 64 + (d - 0x80) in
    let c = w * 64 + (t - 0x80) in
    let p : c / 64 ≡ w = omega arith in
    let q : c / 4096 ≡ v = omega arith in
    let r : c / 262144 ≡ a - 0xF0 = omega arith in
    let k : 0xF0 + c / 262144 ≡ a = omega arith in
    let x : 0x80 + c / 4096 % 64 ≡ b = omega arith in
    let y : 0x80 + c / 64 % 64 ≡ d = omega arith in
    let z : 0x80 + c % 64 ≡ t = omega arith in
    utf8_four c g ∙ rw (k, x, y, z)

-- a byte of a range in front
abbrev Stands : ℕ → ℕ → List ℕ → (ℕ → List ℕ → Type 0) → Type 0
Stands low high s Then = (b : ℕ) × (t : List ℕ) × (s ≡ b ∷ t) × (low ≤ b) × (b ≤ high) × Then b t

module _ (c n : ℕ) where
  second_took : (r : Row) (m o a : ℕ) (s : List ℕ) → r.marker ≡ m → r.more ≡ o → second8 r a s ≡ took c n →
      Stands r.low r.high s (λ b t. tail8 o ((a - m) * 64 + (b - 0x80)) 2 t ≡ took c n)
  second_took r m o a [] i j h = no_took not_text c n h
  second_took r m o a (b ∷ s) i j h =
      split (between r.low r.high b) (λ e q. let k = in_between r.low r.high b e in (b, s, refl, k.0, k.1, rw (i, j) at q))
      (λ e q. no_took not_text c n q) h

  tail_took : (m x k : ℕ) (s : List ℕ) → tail8 (suc m) x k s ≡ took c n → Stands 0x80 0xBF s (λ b t. tail8 m (x * 64 + (b - 0x80)) (suc k) t ≡ took c n)
  tail_took m x k [] h = no_took not_text c n h
  tail_took m x k (b ∷ s) h =
      split (between 0x80 0xBF b) (λ e q. let i = in_between 0x80 0xBF b e in (b, s, refl, i.0, i.1, q)) (λ e q. no_took not_text c n q) h

  -- by the rows of the table
  abbrev Rows : Type 0 → ℕ → List ℕ → List Row → Type 0
  Rows P a s [] = Unit {0}
  Rows P a s (r ∷ rs) = (r.first ≤ a → a ≤ r.last → second8 r a s ≡ took c n → P) × Rows P a s rs

  by_row : (P : Type 0) (a : ℕ) (s : List ℕ) (rs : List Row) → Rows P a s rs → among8 rs a s ≡ took c n → P
  by_row P a s [] f h = no_took not_text c n h
  by_row P a s (r ∷ rs) f h =
      split (between r.first r.last a) (λ e q. let i = in_between r.first r.last a e in f.0 i.0 i.1 q) (λ e q. by_row P a s rs f.1 q) h

  module _ (r : Row) (a : ℕ) (s : List ℕ) where
    forth_two : r.marker ≡ 0xC0 → r.more ≡ 0 → 0x80 ≤ r.low → r.high ≤ 0xBF → 0xC2 ≤ a → a ≤ 0xDF → second8 r a s ≡ took c n → Forth utf8 (a ∷ s) c n
    forth_two m o l g f e h =
        let p = second_took r 0xC0 0 a s m o h in
        let b = p.0 in
        let i : 0x80 ≤ b = omega (arith, p.3) in
        let j : b ≤ 0xBF = omega (arith, p.4) in
        forth_is utf8 (a ∷ s) (a ∷ b ∷ []) p.1 c n ((a - 0xC0) * 64 + (b - 0x80)) 2 (ap (◌∷◌ a) p.2) (two_is a b f e i j) refl p.5
        (below (omega arith))

    forth_three : r.marker ≡ 0xE0 → r.more ≡ 1 → 0x80 ≤ r.low → r.high ≤ 0xBF → 0xE0 ≤ a → a ≤ 0xEF
        → ((b x : ℕ) → r.low ≤ b → b ≤ r.high → x < 64 → (0x800 ≤ ((a - 0xE0) * 64 + (b - 0x80)) * 64 + x) × Scalar (((a - 0xE0) * 64 + (b - 0x80)) * 64 + x))
        → second8 r a s ≡ took c n → Forth utf8 (a ∷ s) c n
    forth_three m o l g f e scalar h =
        let p = second_took r 0xE0 1 a s m o h in
        let b = p.0 in
        let v = (a - 0xE0) * 64 + (b - 0x80) in
        let q = tail_took 0 v 2 p.1 p.5 in
        let d = q.0 in
        let i : 0x80 ≤ b = omega (arith, p.3) in
        let j : b ≤ 0xBF = omega (arith, p.4) in
        let z = scalar b (d - 0x80) p.3 p.4 (omega (arith, q.4)) in
        forth_is utf8 (a ∷ s) (a ∷ b ∷ d ∷ []) q.1 c n (v * 64 + (d - 0x80)) 3 (ap (◌∷◌ a) (p.2 ∙ ap (◌∷◌ b) q.2))
        (three_is a b d f e i j q.3 q.4 z.0) refl q.5 z.1

    forth_four : r.marker ≡ 0xF0 → r.more ≡ 2 → 0x80 ≤ r.low → r.high ≤ 0xBF → 0xF0 ≤ a
        →
        ((b x : ℕ) → r.low ≤ b → b ≤ r.high → x < 4096 → (0x10000 ≤ ((a - 0xF0) * 64 + (b - 0x80)) * 4096 + x) ×
        (((a - 0xF0) * 64 + (b - 0x80)) * 4096 + x ≤ 0x10FFFF))
        → second8 r a s ≡ took c n → Forth utf8 (a ∷ s) c n
    forth_four m o l g f scalar h =
        let p = second_took r 0xF0 2 a s m o h in
        let b = p.0 in
        let v = (a - 0xF0) * 64 + (b - 0x80) in
        let q = tail_took 1 v 2 p.1 p.5 in
        let d = q.0 in
        let w = v * 64 + (d - 0x80) in
        let y = tail_took 0 w 3 q.1 q.5 in
        let t = y.0 in
        let i : 0x80 ≤ b = omega (arith, p.3) in
        let j : b ≤ 0xBF = omega (arith, p.4) in
        let z = scalar b ((d - 0x80) * 64 + (t - 0x80)) p.3 p.4 (omega (arith, q.4, y.4)) in
        forth_is utf8 (a ∷ s) (a ∷ b ∷ d ∷ t ∷ []) y.1 c n (w * 64 + (t - 0x80)) 4 (ap (◌∷◌ a) (p.2 ∙ ap (◌∷◌ b) (q.2 ∙ ap (◌∷◌ d) y.2)))
        (four_is a b d t f i j q.3 q.4 y.3 y.4 (omega (arith, z.0))) refl y.5 (above (omega (arith, z.0)) (omega (arith, z.1)))

  pub char8_forth : (s : List ℕ) → char8 s ≡ took c n → Forth utf8 s c n
  unfolding char8
  char8_forth [] h = no_took not_text c n h
  char8_forth (a ∷ s) h =
      split (ltb a 0x80)
      (λ e q. forth_is utf8 (a ∷ s) (a ∷ []) s c n a 1 refl (utf8_one a (ltb-true a 0x80 e)) refl q (below (omega (arith, ltb-true a 0x80 e))))
      (λ e q. by_row (Forth utf8 (a ∷ s) c n) a s well_formed (
        (λ f l. forth_two (row_at 0 well_formed) a s refl refl (omega arith) (omega arith) f l),
        (
          (λ f l. forth_three (row_at 1 well_formed) a s refl refl (omega arith) (omega arith) (omega arith) (omega arith)
              (λ b x i j k. (omega arith, below (omega arith)))),
          (
            (λ f l. forth_three (row_at 2 well_formed) a s refl refl (omega arith) (omega arith) (omega arith) (omega arith)
                (λ b x i j k. (omega arith, below (omega arith)))),
            (
              (λ f l. forth_three (row_at 3 well_formed) a s refl refl (omega arith) (omega arith) (omega arith) (omega arith)
                  (λ b x i j k. (omega arith, below (omega arith)))),
              (
                (λ f l. forth_three (row_at 4 well_formed) a s refl refl (omega arith) (omega arith) (omega arith) (omega arith)
                    (λ b x i j k. (omega arith, above (omega arith) (omega arith)))),
                (
                  (λ f l. forth_four (row_at 5 well_formed) a s refl refl (omega arith) (omega arith) f (λ b x i j k. (omega arith, omega arith))),
                  (
                    (λ f l. forth_four (row_at 6 well_formed) a s refl refl (omega arith) (omega arith) (omega arith)
                        (λ b x i j k. (omega arith, omega arith))),
                    (
                      (λ f l. forth_four (row_at 7 well_formed) a s refl refl (omega arith) (omega arith) (omega arith)
                          (λ b x i j k. (omega arith, omega arith))),
                      tt,
                    ),
                  ),
                ),
              ),
            ),
          ),
        ),
      ) q) h
