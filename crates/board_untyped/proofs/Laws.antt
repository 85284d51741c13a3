-- What is written of three numbers, by what the layer below tells of the value made of them.
-- Assumes nothing.
use Rattle.std.specs.Prelude.{None, Some}
use mathlib.Core.Path.{◌≡◌}
use mathlib.Core.List.{List}
use Prim.Native.Nat.{ℕ}
use lib.ListN.{get_or}
use Rattle.format.specs.Answer.{Refusal, refuses}
use Rattle.format.specs.Value.{write_untyped}
use Rattle.value_kind.specs.declared.Value.{Value}
use Rattle.value_kind.specs.Told.{value_told}
use Rattle.packed_value.specs.Numbers.{no_value}
use Rattle.packed_value.specs.Made.{given_made}
use Rattle.packed_value.proofs.Told.{value_told_lem}
use Rattle.board_untyped.specs.Plain.{untyped_given}

module _ (value buffer : List ℕ) where
  pub untyped_is : (v : Value) → v ≡ given_made value → no_value value ≡ None → write_untyped (value_told buffer v) ≡ untyped_given value buffer
  untyped_is v y n = rw (n, y, value_told_lem buffer (get_or value 0 0) (get_or value 1 0) (get_or value 2 0))

  pub untyped_not : (e : Refusal) → Some e ≡ no_value value → refuses e ≡ untyped_given value buffer
  untyped_not e n = rw (← n)
