use mathlib.Core.Path.{◌≡◌}
use mathlib.Core.List.{map}
use Prim.Native.Nat.{◌≤◌, ◌-◌}
use lib.ListN.{length, take}
use Rattle.format.specs.Answer.{read_at}
use Rattle.format.specs.Row.{read_columns}
use Rattle.column_type.specs.Told.{column_told}
use Rattle.capture_columns.specs.Told.{stop_of}
use Rattle.capture_columns.proofs.Reading.{read_left}
use Rattle.capture_columns.proofs.read_columns.Given as goal

abbrev pub invariant-loop-i : goal.invariant-loop-i
invariant-loop-i l =
    (l.i ≤ l.count)
    × (l.count ≤ 1024)
    × (length l.list ≡ 1024)
    × (l.at.at ≤ length l.s)
    × (read_at (read_columns l.count) l.s l.initial.at.at ≡ read_left (l.count - l.i) l.s (map (column_told l.s) (take l.i l.list)) l.at.at)
    × (stop_of l.count l.s 0 l.initial.at.at ≡ stop_of (l.count - l.i) l.s l.i l.at.at)
