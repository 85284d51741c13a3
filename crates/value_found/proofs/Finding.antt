-- What was read, by where its content stands, and what the room holds afterwards, case by case.
-- A null and a scalar copy nothing, and neither does content that is not PLP: they need no room, and the room stays. PLP content is what the join counts and
-- leaves in the room behind what was copied before.
-- Assumes nothing.
use Rattle.std.specs.Prelude.{Option, Result, None, Some}
use mathlib.Core.Path.{◌≡◌, refl, ap, sym, ◌∙◌, subst}
use mathlib.Core.Bool.{Bool, true, false}
use mathlib.Core.List.{List, [], ◌++◌}
use Prim.Native.Nat.{ℕ, ◌+◌, ◌-◌, ◌≤◌}
use native.Mathlib.Omega.{arith}
use lib.Dec.{ltb}
use lib.ListN.{length, take, drop, length-drop, take-append-drop}
use lib.Seq.{length-take-le}
use borrow.Author.Tests.{le-ltb}
use Rattle.lists.specs.Pick.{pick}
use Rattle.format.specs.Answer.{Refusal, room, Read, took, stops, further, map_read, fitted_read, room_after_read}
use Rattle.format.specs.Descriptor as D
use Rattle.format.specs.Scalar.{Scalar}
use Rattle.format.specs.Plp.{read_plp, plp_copied}
use Rattle.format.specs.Value.{Value, ContentKind, is_text, content_value, content_of, is_plp, copied_out}
use Rattle.format.specs.Found as F
use Rattle.plp_join.specs.Told.{counted, joined_told, join_in}
use Rattle.value_found.specs.Told.{content_found, behind, room_behind}
use Rattle.wire.specs.declared.Cursor.{Cursor}
use Rattle.wire.specs.declared.Refusal as Wire

-- found content, by its count in the room
abbrev pub found_counted : ContentKind → ℕ → Option ℕ → F.Found
found_counted k copied None = F.Found.null
found_counted k copied (Some n) = content_found k (F.in_room copied n)

-- what a join tells of content of a kind
abbrev pub join_told : ContentKind → ℕ → Result (Option ℕ × Cursor) Wire.Refusal → Read F.Found
join_told k copied j = map_read (found_counted k copied) (joined_told j)

pub same_found : (n : ℕ) {x y : F.Found} → x ≡ y → took x n ≡ took y n
same_found n e = ap (λ (f : F.Found). took f n) e

-- what an equation is said of
abbrev pub said : {A : Type 0} {x y : A} → x ≡ y → A
said {A} {x} {y} e = x

-- ---- a value by where its content stands

module _ (c : D.Column) where
  pub no_content : (v : Value) → content_of v ≡ [] → copied_out c v ≡ []
  unfolding copied_out
  no_content v e = go (is_plp c)
    where
      go : (b : Bool) → pick b (content_of v) [] ≡ []
      go true = e
      go false = refl

  -- PLP content is copied out, and no other
  pub none_copied : is_plp c ≡ false → (v : Value) → copied_out c v ≡ []
  unfolding copied_out
  none_copied t v = rw t

  pub copies : is_plp c ≡ true → (k : ContentKind) (o : Option (List ℕ)) → copied_out c (content_value k o) ≡ plp_copied o
  unfolding copied_out
  copies t k None = rw t
  copies t ContentKind.binary (Some s) = rw t
  copies t ContentKind.string (Some s) = rw t

  module _ (at copied : ℕ) where
    pub stands-input : is_plp c ≡ false → (k : ContentKind) (s : List ℕ) →
        F.found_of c at copied (content_value k (Some s)) ≡ content_found k (F.in_input (at + 2) (length s))
    stands-input t ContentKind.binary s = rw t
    stands-input t ContentKind.string s = rw t

    pub stands-room : is_plp c ≡ true → (k : ContentKind) (o : Option (List ℕ)) → F.found_of c at copied (content_value k o) ≡ found_counted k copied
        (counted o)
    stands-room t k None = refl
    stands-room t ContentKind.binary (Some s) = rw t
    stands-room t ContentKind.string (Some s) = rw t

-- ---- with a room

module _ (c : D.Column) (at copied : ℕ) (out : List ℕ) where
  abbrev left : ℕ
  left = length out - copied

  -- what a call tells of what was read, and what it leaves in the room
  pub record Answers (told : Read F.Found) (after : List ℕ) (r : Read Value) : Type 0 where
    pub answered : told ≡ map_read (F.found_of c at copied) (behind c r at left)
    pub stays : after ≡ room_behind c r at copied out

  kept : (v : Value) (n : ℕ) → copied_out c v ≡ [] → Answers (took (F.found_of c at copied v) (at + n)) out (took v n)
  unfolding fitted_read room_after_read
  kept v n e =
      let t : ltb left 0 ≡ false = le-ltb left 0 (omega arith) in
      record { answered = rw (e, t); stays = rw (e, t, e) (sym (take-append-drop copied out)) }

  pub null-found : (r : Read Value) (n : ℕ) → took Value.null n ≡ r → Answers (took F.Found.null (at + n)) out r
  null-found r n e = subst (Answers (took F.Found.null (at + n)) out) e (kept Value.null n (no_content c Value.null refl))

  pub scalar-found : (r : Read Value) (v : Scalar) (n : ℕ) → took (Value.scalar v) n ≡ r → Answers (took (F.Found.scalar v) (at + n)) out r
  scalar-found r v n e = subst (Answers (took (F.Found.scalar v) (at + n)) out) e (kept (Value.scalar v) n (no_content c (Value.scalar v) refl))

  pub stops-found : (r : Read Value) (d : Refusal) → stops d ≡ r → Answers (stops d) out r
  unfolding fitted_read room_after_read
  stops-found r d e = subst (Answers (stops d) out) e (record { answered = refl; stays = sym (take-append-drop copied out) })

  -- content behind the two length bytes
  pub part-found : is_plp c ≡ false → (r : Read Value) (k : ContentKind) (rest : List ℕ) (start count : ℕ) → start ≡ 2 → start + count ≤ length rest
      → took (content_value k (Some (take count (drop start rest)))) (start + count) ≡ r
      → Answers (took (content_found k (F.in_input (at + start) count)) (at + (start + count))) out r
  part-found t r k rest start count two inside e =
      let s = take count (drop start rest) in
      let l : length s ≡ count = length-take-le count (drop start rest) (omega (arith, length-drop start rest)) in
      let f : F.found_of c at copied (content_value k (Some s)) ≡ content_found k (F.in_input (at + start) count) =
      stands-input c at copied t k s ∙ ap (λ (p : F.Stand). content_found k p) (rw (l, two)) in
      let a = kept (content_value k (Some s)) (start + count) (none_copied c t (content_value k (Some s))) in
      subst (Answers (took (content_found k (F.in_input (at + start) count)) (at + (start + count))) out) e
      (subst (λ (x : F.Found). Answers (took x (at + (start + count))) out (took (content_value k (Some s)) (start + count))) f a)

  -- PLP content: what the join of it says
  module _ (t : is_plp c ≡ true) (k : ContentKind) where
    abbrev joins : Read (Option (List ℕ)) → Read (Option (List ℕ))
    joins r = fitted_read plp_copied (further at r) left

    read_joins : (r : Read (Option (List ℕ))) → behind c (map_read (content_value k) r) at left ≡ map_read (content_value k) (joins r)
    unfolding fitted_read
    read_joins (took o n) = rw (copies c t k o) (go (ltb left (length (plp_copied o))))
      where
        go : (b : Bool) → pick b (stops room) (took (content_value k o) (at + n)) ≡ map_read (content_value k) (pick b (stops room) (took o (at + n)))
        go true = refl
        go false = refl
    read_joins (stops e) = refl

    told_joins : (r : Read (Option (List ℕ))) →
        map_read (found_counted k copied) (map_read counted r) ≡ map_read (F.found_of c at copied) (map_read (content_value k) r)
    told_joins (took o n) = ap (λ (f : F.Found). took f n) (sym (stands-room c at copied t k o))
    told_joins (stops e) = refl

    room_joins : (r : Read (Option (List ℕ))) (l : List ℕ) → room_after_read plp_copied r l ≡ room_after_read (copied_out c) (map_read (content_value k) r) l
    unfolding room_after_read
    room_joins (took o n) l = rw (copies c t k o)
    room_joins (stops e) l = refl

    joins_found : (r : Read (Option (List ℕ))) (told : Read (Option ℕ)) (ys : List ℕ) → told ≡ map_read counted (joins r)
        → ys ≡ room_after_read plp_copied (joins r) (drop copied out)
        → Answers (map_read (found_counted k copied) told) (take copied out ++ ys) (map_read (content_value k) r)
    joins_found r told ys e f =
        let j = read_joins r in
        record {
          answered = ap (map_read (found_counted k copied)) e ∙ (told_joins (joins r) ∙ ap (map_read (F.found_of c at copied)) (sym j));
          stays =
              ap (λ (l : List ℕ). take copied out ++ l)
              (f ∙ (room_joins (joins r) (drop copied out) ∙ ap (λ (x : Read Value). room_after_read (copied_out c) x (drop copied out)) (sym j)));
        }

    -- a join that was lent the room behind what was copied before
    pub joins_lent : (text : Bool) (rest part ys : List ℕ) (told : Read (Option ℕ)) → text ≡ is_text k → part ≡ drop copied out
        → told ≡ map_read counted (join_in text rest at (length part)) → ys ≡ room_after_read plp_copied (join_in text rest at (length part)) part
        → Answers (map_read (found_counted k copied) told) (take copied out ++ ys) (map_read (content_value k) (read_plp (is_text k) rest))
    joins_lent text rest part ys told q p e f =
        let l : length part ≡ left = ap length p ∙ length-drop copied out in
        joins_found (read_plp (is_text k) rest) told ys (rw (l, q) at e) (rw (l, q, p) at f)
