-- What lent lists tell, in the words of `format`: each record by itself, in the same order.
use Rattle.std.specs.Prelude.{ℕ, List, map}
use Rattle.format.specs.Descriptor as D
use Rattle.format.specs.Value as Values
use Rattle.column_type.specs.Told.{column_told}
use Rattle.column_type.specs.declared.Column.{Column}
use Rattle.value_kind.specs.Told.{value_told}
use Rattle.value_kind.specs.declared.Value.{Value}

-- the columns, their names parts of the lent buffer
abbrev pub columns_told : List ℕ → List Column → List D.Column
columns_told buffer cols = map (column_told buffer) cols

-- the values to be written, their content parts of the lent buffer
abbrev pub values_told : List ℕ → List Value → List Values.Given
values_told buffer values = map (value_told buffer) values
