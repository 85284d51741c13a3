-- What this crate's declared types tell, in the words of `format`: what a row needs, and where it ends.
use Rattle.std.specs.Prelude.{Err, Ok, Result}
use Rattle.std.specs.Prelude.{List}
use Rattle.format.specs.Answer.{Read, took, stops}
use Rattle.format.specs.Descriptor as D
use Rattle.format.specs.Value.{Value}
use Rattle.format.specs.Row.{copied_out_row}
use Rattle.format.specs.Normal.{encode_row}
use Rattle.wire.specs.Told.{refusal_told}
use Rattle.value_weigh.specs.Told.{Needs, needs_for}
use Rattle.judge_step.specs.declared.RowNeeds.{RowNeeds}
use Rattle.wire.specs.declared.Refusal.{Refusal}

-- the content bytes that reading the row copies out, and the bytes of its normal form
abbrev pub needs_of : List D.Column → List Value → Needs
needs_of cs vs = needs_for (copied_out_row cs vs) (encode_row cs vs)

abbrev pub needs_told : RowNeeds → Needs
needs_told n = record { joined = n.joined; normal = n.normal }

abbrev pub row_judged_told : Result RowNeeds Refusal → Read Needs
row_judged_told (Ok n) = took (needs_told n) n.next.at
row_judged_told (Err e) = stops (refusal_told e)
