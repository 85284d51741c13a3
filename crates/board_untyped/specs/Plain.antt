-- Values as three numbers, written with their own descriptor in front.
use Rattle.std.specs.Prelude.{ℕ, List}
use Rattle.format.specs.Answer.{Answer}
use Rattle.format.specs.Value.{write_untyped}
use Rattle.packed_value.specs.Numbers.{given, no_value, unless}

-- numbers that are no value are 3 before anything else
abbrev pub untyped_given : List ℕ → List ℕ → Answer (List ℕ)
untyped_given value buffer = unless (no_value value) (write_untyped (given buffer value))
