-- What every call answers: document 01, "The refusals".
use Rattle.std.specs.Prelude.{ℕ, ◌+◌, List, ◌++◌, Bool, length, take, drop, ltb}
use Rattle.lists.specs.Pick.{pick}

-- "The refusals", the table's nine rows in their order.
pub data Refusal : Type 0 where
  missing : Refusal
  unknown : Refusal
  kind : Refusal
  room : Refusal
  long : Refusal
  rule : Refusal
  not_carried : Refusal
  sequence : Refusal
  not_text : Refusal

-- "A refusal carries its number only."
abbrev pub number : Refusal → ℕ
number missing = 1
number unknown = 2
number kind = 3
number room = 4
number long = 5
number rule = 6
number not_carried = 7
number sequence = 8
number not_text = 9

-- An answer, or one refusal.
pub data Answer (A : Type 0) : Type 0 where
  gives : A → Answer A
  refuses : Refusal → Answer A

-- A reader's answer: what it read and how many bytes that took, or one refusal.
pub data Read (A : Type 0) : Type 0 where
  took : A → ℕ → Read A
  stops : Refusal → Read A

-- A check: where the test says that the rule is broken, the refusal and nothing else.
abbrev pub refuse_if : {A : Type 0} → Bool → Refusal → Answer A → Answer A
refuse_if broken e answer = pick broken (refuses e) answer

abbrev pub stop_if : {A : Type 0} → Bool → Refusal → Read A → Read A
stop_if broken e answer = pick broken (stops e) answer

-- One reader behind another: the second is given the bytes that the first left, and the counts add up.
abbrev pub further : {A : Type 0} → ℕ → Read A → Read A
further n (took v m) = took v (n + m)
further n (stops e) = stops e

abbrev pub follow : {A B : Type 0} → Read A → (A → List ℕ → Read B) → List ℕ → Read B
follow (took v n) next s = further n (next v (drop n s))
follow (stops e) next s = stops e

unfoldable pub then_read : {A B : Type 0} → (List ℕ → Read A) → (A → List ℕ → Read B) → List ℕ → Read B
then_read reader next s = follow (reader s) next s

-- A read with its value turned into another.
abbrev pub map_read : {A B : Type 0} → (A → B) → Read A → Read B
map_read f (took v n) = took (f v) n
map_read f (stops e) = stops e

-- One answer behind another.
abbrev pub and_then : {A B : Type 0} → Answer A → (A → Answer B) → Answer B
and_then (gives v) next = next v
and_then (refuses e) next = refuses e

-- "Every reader hands back a cursor that the next reader continues from": reading at a place of the input, the count turned
-- into the next place. "A place behind the input's end is 1 before anything else."
unfoldable pub read_at : {A : Type 0} → (List ℕ → Read A) → List ℕ → ℕ → Read A
read_at reader s at = pick (ltb (length s) at) (stops missing) (further at (reader (drop at s)))

-- "4: the whole output is longer than the room lent." It comes last.
unfoldable pub fitted : Answer (List ℕ) → ℕ → Answer (List ℕ)
fitted (gives bytes) size = pick (ltb size (length bytes)) (refuses room) (gives bytes)
fitted (refuses e) size = refuses e

-- How many bytes a writer wrote, or why none.
unfoldable pub wrote : Answer (List ℕ) → Answer ℕ
wrote (gives bytes) = gives (length bytes)
wrote (refuses e) = refuses e

-- The room afterwards: "no lent byte changes" at a refusal; "a success writes at the front of the room and keeps every byte behind it".
unfoldable pub room_after : Answer (List ℕ) → List ℕ → List ℕ
room_after (gives bytes) out = bytes ++ drop (length bytes) out
room_after (refuses e) out = out

-- A read that copies content out (PLP): the bytes that it copies count against the room, 4 last.
unfoldable pub fitted_read : {A : Type 0} → (A → List ℕ) → Read A → ℕ → Read A
fitted_read copied (took v n) size = pick (ltb size (length (copied v))) (stops room) (took v n)
fitted_read copied (stops e) size = stops e

unfoldable pub room_after_read : {A : Type 0} → (A → List ℕ) → Read A → List ℕ → List ℕ
room_after_read copied (took v n) out = copied v ++ drop (length (copied v)) out
room_after_read copied (stops e) out = out

-- A part of a lent buffer that a span (start, count) names: its bytes, or outside where the span leaves the buffer.
pub data Part : Type 0 where
  inside : List ℕ → Part
  outside : Part

unfoldable pub part : List ℕ → ℕ → ℕ → Part
part buffer start count = pick (ltb (length buffer) (start + count)) outside (inside (take count (drop start buffer)))
