-- The records that a list is said to have behind its end. No call can ask for one: each asks for a place inside the list.
use Rattle.column_type.specs.Told.{plain_column}
use Rattle.column_type.specs.declared.Column.{Column}
use Rattle.column_type.specs.declared.TypeId.TheVariants as T
use Rattle.value_kind.specs.declared.Value.{Value}
use Rattle.value_kind.specs.declared.Value.TheVariants as W

abbrev pub no_column : Column
no_column = plain_column T.Xml 0

abbrev pub no_value : Value
no_value = W.Null
