-- The second pass of a row, turn by turn: the room holds the first bytes of the row, and what is left of the columns and values gives the others.
-- Why it holds: the row's bytes are known to fit before the first turn; each turn puts one value's bytes behind those that stand, and those are the next of the
-- row.
-- Assumes nothing.
use mathlib.Core.Path.{◌≡◌, refl, sym, ap, ◌∙◌}
use mathlib.Core.List.{List, [], ◌++◌}
use Prim.Native.Nat.{ℕ, ◌+◌, ◌<◌, ◌≤◌, zero-le}
use native.Mathlib.Omega.{arith}
use lib.ListN.{length, get_or, drop, length-append, length-drop}
use lib.Dec.{ltb}
use borrow.Author.Tests.{ltb-false, le-ltb, lt-ltb}
use Rattle.lists.specs.Put.{put_at, front}
use Rattle.lists.proofs.Split.{clash}
use Rattle.lists.proofs.Front.{front_none, front-end, grown}
use Rattle.format.specs.Answer.{Answer, Refusal, gives, refuses, room, fitted, wrote, room_after}
use Rattle.format.specs.Value.{write_value}
use Rattle.format.specs.Row.{join_two}
use Rattle.format.proofs.Answer.{no_gives, passed, and_took}
use Rattle.column_type.specs.declared.Column.{Column}
use Rattle.column_type.specs.Told.{column_told}
use Rattle.value_kind.specs.declared.Value.{Value}
use Rattle.value_kind.specs.Told.{value_told}
use Rattle.columns.specs.None.{no_column, no_value}
use Rattle.row_step.specs.Steps.{start_of, FitsAt, bytes_in}
use Rattle.row_step.proofs.Sizing.{asked, left, here, more, none, counted, uncounted}

-- ---- answers

fits : (a : Answer (List ℕ)) (size : ℕ) (j : List ℕ) → fitted a size ≡ gives j → (a ≡ gives j) × (length j ≤ size)
unfolding fitted
fits (gives b) size j h =
    let p = passed (ltb size (length b)) room (gives b) j h in
    let e : b ≡ j = cc p.1 in
    (p.1, rw (← e) (ltb-false size (length b) p.0))
fits (refuses e) size j h = no_gives e j h

-- an answer that is refused leaves the room as it was
pub refused_out : (a : Answer (List ℕ)) (out : List ℕ) (e : Refusal) → refuses e ≡ wrote a
    → (refuses e ≡ wrote (fitted a (length out))) × (out ≡ room_after (fitted a (length out)) out)
unfolding fitted wrote room_after
refused_out (gives b) out e h = clash cc
refused_out (refuses x) out e h = (h, refl)

-- and so does one that is longer than the room
pub long_out : (a : Answer (List ℕ)) (out : List ℕ) (n : ℕ) → gives n ≡ wrote a → length out < n
    → (refuses room ≡ wrote (fitted a (length out))) × (out ≡ room_after (fitted a (length out)) out)
unfolding fitted wrote room_after
long_out (gives b) out n h l =
    let c : n ≡ length b = cc in
    rw (lt-ltb (length out) (length b) (omega (arith, c, l))) (refl, refl)
long_out (refuses x) out n h l = clash cc

-- one that is not is given
pub given_out : (a : Answer (List ℕ)) (out : List ℕ) (n : ℕ) → gives n ≡ wrote a → n ≤ length out
    → (j : List ℕ) × (fitted a (length out) ≡ gives j) × (gives n ≡ wrote (fitted a (length out)))
unfolding fitted wrote
given_out (gives b) out n h l =
    let c : n ≡ length b = cc in
    rw (le-ltb (length out) (length b) (omega (arith, c, l))) (b, refl, h)
given_out (refuses x) out n h l = clash cc

-- two answers joined
join_took : (a : Answer (List ℕ)) (x j : List ℕ) → join_two a x ≡ gives j → (rest : List ℕ) × (a ≡ gives rest) × (x ++ rest ≡ j)
join_took (gives rest) x j h = (rest, refl, cc)
join_took (refuses e) x j h = no_gives e j h

module _ (buffer : List ℕ) (ys : List Column) (zs : List Value) (out₀ : List ℕ) where
  -- what the call answers
  abbrev pub answer : Answer (List ℕ)
  answer = fitted (asked buffer ys zs) (length out₀)

  -- a row that is answered passed the counts
  passed_counts : (j : List ℕ) → asked buffer ys zs ≡ gives j → start_of (length ys) (length zs) ≡ gives 0
  passed_counts j h = go (start_of (length ys) (length zs)) refl
    where
      go : (b : Answer ℕ) → start_of (length ys) (length zs) ≡ b → start_of (length ys) (length zs) ≡ gives 0
      go (gives k) e = e ∙ ap gives (counted buffer ys zs k e).2
      go (refuses x) e = no_gives x j (sym (uncounted buffer ys zs x e) ∙ h)

  -- the row's bytes
  module _ (j : List ℕ) (h : answer ≡ gives j) where
    -- what is known at a turn
    abbrev pub Filled : ℕ → ℕ → List ℕ → Type 0
    Filled i at bs =
        (at ≤ length j) × (length bs ≡ length out₀) × (bs ≡ front j at out₀) × (left buffer ys zs i ≡ gives (drop at j))

    pub filling_begins : Filled 0 0 out₀
    filling_begins =
        let f = fits (asked buffer ys zs) (length out₀) j h in
        let c = counted buffer ys zs 0 (passed_counts j f.0) in
        (zero-le, refl, front_none j out₀, sym c.3 ∙ f.0)

    -- there is a value for each column
    pub as_many : length ys ≡ length zs
    as_many =
        let f = fits (asked buffer ys zs) (length out₀) j h in
        (counted buffer ys zs 0 (passed_counts j f.0)).1

    -- the value's bytes, and those that are left behind them
    record Next (i at : ℕ) : Type 0 where
      pub bytes : List ℕ
      pub rest : List ℕ
      pub written : here buffer ys zs i ≡ gives bytes
      pub behind : left buffer ys zs (i + 1) ≡ gives rest
      pub joined : bytes ++ rest ≡ drop at j

    next : (i at : ℕ) → i < length ys → left buffer ys zs i ≡ gives (drop at j) → Next i at
    next i at l e =
        let p = and_took (here buffer ys zs i) (join_two (left buffer ys zs (i + 1))) (drop at j)
        (sym (more buffer ys zs i l (omega (arith, l, as_many))) ∙ e) in
        let q = join_took (left buffer ys zs (i + 1)) p.0 (drop at j) p.2 in
        record { bytes = p.0; rest = q.0; written = p.1; behind = q.1; joined = q.2 }

    filling_asks : (i at : ℕ) (bs : List ℕ) → i < length ys → Filled i at bs → FitsAt (here buffer ys zs i) at (length bs)
    filling_asks i at bs l z =
        let f = fits (asked buffer ys zs) (length out₀) j h in
        let x = next i at l z.3 in
        let t : length x.bytes + length x.rest ≡ length (drop at j) = sym (length-append x.bytes x.rest) ∙ ap length x.joined in
        let d : at + length x.bytes ≤ length bs = omega (arith, t, simp length-drop at t, f.1, z.0, z.1) in
        rw x.written d

    filling_goes : (i at : ℕ) (bs : List ℕ) → i < length ys → Filled i at bs →
        Filled (i + 1) (at + length (bytes_in (here buffer ys zs i))) (put_at bs at (bytes_in (here buffer ys zs i)))
    filling_goes i at bs l z =
        let f = fits (asked buffer ys zs) (length out₀) j h in
        let x = next i at l z.3 in
        let g = grown j bs out₀ x.bytes x.rest _ at (length x.bytes) refl z.0 f.1 z.1 z.2 (sym x.joined) refl in
        rw x.written (g.room, g.same, g.holds, x.behind ∙ ap gives (sym g.left))

    -- the same of what a step is given and answers
    pub filling_asks_of : (i at : ℕ) (bs : List ℕ) (c : Column) (v : Value) → i < length ys → Filled i at bs →
        c ≡ get_or ys i no_column → v ≡ get_or zs i no_value → FitsAt (write_value (column_told buffer c) (value_told buffer v)) at (length bs)
    filling_asks_of i at bs c v l z e f = rw (e, f) (filling_asks i at bs l z)

    pub filling_next : (i at next : ℕ) (bs after : List ℕ) (c : Column) (v : Value) → i < length ys → Filled i at bs →
        c ≡ get_or ys i no_column → v ≡ get_or zs i no_value →
        next ≡ at + length (bytes_in (write_value (column_told buffer c) (value_told buffer v))) →
        after ≡ put_at bs at (bytes_in (write_value (column_told buffer c) (value_told buffer v))) → Filled (i + 1) next after
    filling_next i at next bs after c v l z e f p q = rw (p, q, e, f) (filling_goes i at bs l z)

    -- behind the last turn
    pub filling_ends : (at : ℕ) (bs : List ℕ) → Filled (length ys) at bs → bs ≡ room_after answer out₀
    unfolding room_after
    filling_ends at bs z =
        let e : drop at j ≡ [] = cc (sym z.3 ∙ none buffer ys zs) in
        rw h (z.2 ∙ front-end j at out₀ z.0 e)
