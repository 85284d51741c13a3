-- Partially length-prefixed values: the eight bytes, the chunks, the walk. Document 01, "Values under a type", "Walking and joining"; MS-TDS, the rule
-- PLP_BODY.
use Rattle.std.specs.Prelude.{ℕ, zero, suc, ◌+◌, ◌-◌, ◌%◌, ◌^◌, List, [], ◌∷◌, ◌++◌, Bool, true, false, not, length, take, drop, ltb, eqb, None, Option, Some}
use Rattle.lists.specs.Pick.{pick}
use Rattle.format.specs.Answer.{Answer, gives, refuses, Read, took, stops, missing, long, sequence, refuse_if, stop_if, then_read}
use Rattle.format.specs.Answer.{read_at, fitted_read, room_after_read}
use Rattle.format.specs.Number.{low_nat, low_bytes, read_low}

-- "Declared 65,535: PLP", the mark.
abbrev pub plp_mark : ℕ
plp_mark = 65535

-- "Content may not exceed the declared length, 65,535 included": the bound of a PLP value's content.
unfoldable pub plp_bound : ℕ
plp_bound = 65535

-- "Eight bytes: all FF is null; FE then seven FF is unknown; else the total."
abbrev pub plp_null : ℕ
plp_null = 256 ^ 8 - 1

abbrev pub plp_unknown : ℕ
plp_unknown = 256 ^ 8 - 2

-- What the eight bytes say.
pub data PlpHead : Type 0 where
  is_null : PlpHead
  chunked : Option ℕ → PlpHead

-- "A known total above the bound, 5."
abbrev pub head_of : ℕ → List ℕ → Read PlpHead
head_of n s =
    pick (eqb n plp_null) (took is_null 0)
    (pick (eqb n plp_unknown) (took (chunked None) 0)
    (stop_if (ltb plp_bound n) long (took (chunked (Some n)) 0)))

unfoldable pub read_plp_head : List ℕ → Read PlpHead
read_plp_head s = then_read (read_low 8) head_of s

-- The state of a walk over chunks: the place in the input, the content bytes passed, the known total, whether an even count is asked, and whether
-- the last zero was taken.
pub record Walk : Type 0 where
  pub at : ℕ
  pub sum : ℕ
  pub total : Option ℕ
  pub text : Bool
  pub ended : Bool

abbrev pub above_total : Option ℕ → ℕ → Bool
above_total None n = false
above_total (Some t) n = ltb t n

abbrev pub unlike_total : Option ℕ → ℕ → Bool
unlike_total None n = false
unlike_total (Some t) n = not (eqb n t)

-- "String content has an even count."
abbrev pub is_odd : Bool → ℕ → Bool
is_odd true n = not (eqb (n % 2) 0)
is_odd false n = false

-- A zero head: "at the end, sum unequal to the total, 8; then odd, 8".
unfoldable pub end_of : Walk → Answer Walk
end_of w =
    refuse_if (unlike_total w.total w.sum) sequence
    (refuse_if (is_odd w.text w.sum) sequence
    (gives (record { at = w.at + 4; sum = w.sum; total = w.total; text = w.text; ended = true })))

-- Another head: "per chunk, running sum above the bound, 5; above the known total, 8; then missing bytes, 1".
unfoldable pub chunk_of : List ℕ → Walk → ℕ → Answer Walk
chunk_of s w n =
    refuse_if (ltb plp_bound (w.sum + n)) long
    (refuse_if (above_total w.total (w.sum + n)) sequence
    (refuse_if (ltb (length s) (w.at + 4 + n)) missing
    (gives (record { at = w.at + 4 + n; sum = w.sum + n; total = w.total; text = w.text; ended = false }))))

-- The four-byte length at the walk's place.
abbrev pub length_at : List ℕ → ℕ → ℕ
length_at s at = low_nat (take 4 (drop at s))

-- One chunk head.
unfoldable pub take_head : List ℕ → Walk → Answer Walk
take_head s w =
    refuse_if (ltb (length s) (w.at + 4)) missing
    (pick (eqb (length_at s w.at) 0) (end_of w) (chunk_of s w (length_at s w.at)))

-- A walk's answer: where it stands, and how many heads it took.
pub record Walked : Type 0 where
  pub walk : Walk
  pub taken : ℕ

abbrev pub on_head : (Walk → ℕ → Answer Walked) → ℕ → Answer Walk → Answer Walked
on_head go k (gives w) = go w (k + 1)
on_head go k (refuses e) = refuses e

-- "Takes chunk heads one after another until it has taken as many as it was allowed or has taken the last zero, which counts too": k taken before.
unfoldable pub walk_from : ℕ → List ℕ → Walk → ℕ → Answer Walked
walk_from zero s w k = gives (record { walk = w; taken = k })
walk_from (suc allowed) s w k = pick w.ended (gives (record { walk = w; taken = k })) (on_head (walk_from allowed s) k (take_head s w))

-- The walk from whatever state it is handed. A place behind the input's end is 1 before anything else.
unfoldable pub walk_chunks : ℕ → List ℕ → Walk → Answer Walked
walk_chunks allowed s w = refuse_if (ltb (length s) w.at) missing (walk_from allowed s w 0)

-- "PLP content is the chunks joined": the content bytes behind at most so many heads.
abbrev pub on_join : List ℕ → Walk → (Walk → List ℕ) → Answer Walk → List ℕ
on_join s w go (gives x) = take (x.at - (w.at + 4)) (drop (w.at + 4) s) ++ go x
on_join s w go (refuses e) = []

unfoldable pub join_from : ℕ → List ℕ → Walk → List ℕ
join_from zero s w = []
join_from (suc allowed) s w = pick w.ended [] (on_join s w (join_from allowed s) (take_head s w))

-- The chunks joined from a walk's state on. More heads than there are bytes are never met.
abbrev pub joined : List ℕ → Walk → List ℕ
joined s w = join_from (length s + 1) s w

-- "It starts behind the eight bytes": a walk that has passed nothing, at a place.
abbrev pub opened_at : Option ℕ → Bool → ℕ → Walk
opened_at total text at = record { at = at; sum = 0; total = total; text = text; ended = false }

abbrev pub opened : Option ℕ → Bool → Walk
opened total text = opened_at total text 8

-- Opening a walk: the eight bytes at a place of the input, and the walk behind them. "All FF is null": no chunks follow, so no walk.
-- "The total's bound is judged with the eight bytes."
abbrev pub walk_behind : Bool → Read PlpHead → Read (Option Walk)
walk_behind text (took is_null next) = took None next
walk_behind text (took (chunked total) next) = took (Some (opened_at total text next)) next
walk_behind text (stops e) = stops e

unfoldable pub open_walk : Bool → List ℕ → ℕ → Read (Option Walk)
open_walk text s at = walk_behind text (read_at read_plp_head s at)

-- "For callers there is also a walk object that keeps the lent input and its place": the input, where the walk stands in it, and what the last
-- step reported: "how many it took", or its refusal, which changes nothing else.
pub record WalkObject : Type 0 where
  pub input : List ℕ
  pub walk : Walk
  pub said : Answer ℕ

abbrev pub made_of : List ℕ → Walk → WalkObject
made_of s w = record { input = s; walk = w; said = gives 0 }

abbrev pub moved_by : WalkObject → Answer Walked → WalkObject
moved_by o (gives x) = record { input = o.input; walk = x.walk; said = gives x.taken }
moved_by o (refuses e) = record { input = o.input; walk = o.walk; said = refuses e }

unfoldable pub stepped : ℕ → WalkObject → WalkObject
stepped allowed o = moved_by o (walk_chunks allowed o.input o.walk)

-- A PLP value: its content, or none for null.
abbrev pub joined_of : List ℕ → Walk → Answer Walked → Read (Option (List ℕ))
joined_of s w (gives x) = took (Some (joined s w)) x.walk.at
joined_of s w (refuses e) = stops e

abbrev pub read_chunks : Bool → List ℕ → Read PlpHead → Read (Option (List ℕ))
read_chunks text s (took is_null n) = took None n
read_chunks text s (took (chunked total) n) = joined_of s (opened total text) (walk_from (length s + 1) s (opened total text) 0)
read_chunks text s (stops e) = stops e

unfoldable pub read_plp : Bool → List ℕ → Read (Option (List ℕ))
read_plp text s = read_chunks text s (read_plp_head s)

-- "PLP content is the chunks joined, copied out": what a PLP value needs of the room.
abbrev pub plp_copied : Option (List ℕ) → List ℕ
plp_copied None = []
plp_copied (Some content) = content

-- A PLP value at a place of the input, its chunks joined at the front of a room of so many bytes; and the room afterwards.
unfoldable pub join_plp : Bool → List ℕ → ℕ → ℕ → Read (Option (List ℕ))
join_plp text s at size = fitted_read plp_copied (read_at (read_plp text) s at) size

unfoldable pub room_after_join : Bool → List ℕ → ℕ → List ℕ → List ℕ
room_after_join text s at out = room_after_read plp_copied (join_plp text s at (length out)) out

-- "The writer uses unknown length and one chunk; empty content is the zero length alone."
abbrev pub chunk_bytes : List ℕ → List ℕ
chunk_bytes [] = []
chunk_bytes (b ∷ bs) = low_bytes 4 (length (b ∷ bs)) ++ (b ∷ bs)

unfoldable pub plp_bytes : Option (List ℕ) → List ℕ
plp_bytes None = low_bytes 8 plp_null
plp_bytes (Some content) = low_bytes 8 plp_unknown ++ (chunk_bytes content ++ low_bytes 4 0)
