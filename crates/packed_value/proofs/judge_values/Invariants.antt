use mathlib.Core.Path.{◌≡◌}
use Rattle.packed_value.specs.Numbers.{no_values}
use Rattle.packed_value.proofs.Listed.{left}
use Rattle.packed_value.proofs.judge_values.Given as goal

abbrev pub invariant-loop-i : goal.invariant-loop-i
invariant-loop-i l = left l.values l.i ≡ no_values l.values
