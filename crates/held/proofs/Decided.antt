-- No two outcomes satisfy the contract of `held_row_size` or of `write_held_row`.
-- Why it holds: `answer_told` has an inverse, and the room is a function of what was passed.
-- Assumes nothing.
use Rattle.std.specs.Prelude.{Result}
use mathlib.Core.Path.{◌≡◌}
use mathlib.Core.List.{List}
use Prim.Native.Nat.{ℕ}
use Rattle.format.specs.Answer.{Answer, wrote}
use Rattle.wire.specs.Told.{answer_told}
use Rattle.wire.proofs.Decided.{Writes, answer_decided, writes_decided}
use Rattle.column_type.specs.declared.Column.{Column}
use Rattle.value_kind.specs.declared.Value.{Value}
use Rattle.held.specs.Held.{write_held}
use Rattle.wire.specs.declared.Refusal.{Refusal}

module _ (buffer : List ℕ) (cols : List Column) (count : ℕ) (values : List Value) (given : ℕ) where
  -- the row that is asked for
  abbrev pub asked : Answer (List ℕ)
  asked = write_held buffer cols count values given

  -- `held::held_row_size`: what it promises, and that this is one answer
  abbrev pub SizesHeld : Result ℕ Refusal → Type 0
  SizesHeld r = answer_told r ≡ wrote asked

  pub held_row_size_decided : (x y : Result ℕ Refusal) → SizesHeld x → SizesHeld y → x ≡ y
  held_row_size_decided x y p q = answer_decided x y (wrote asked) p q

  -- `held::write_held_row`: what it promises of its answer and of the room, and that this is one answer and one room
  abbrev pub WritesHeld : List ℕ → Result ℕ Refusal → List ℕ → Type 0
  WritesHeld out r after = Writes asked out r after

  pub write_held_row_decided : (out : List ℕ) (x y : Result ℕ Refusal) (a b : List ℕ) → WritesHeld out x a → WritesHeld out y b → (x ≡ y) × (a ≡ b)
  write_held_row_decided out x y a b p q = writes_decided asked out x y a b p q
