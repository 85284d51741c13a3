-- What the calls of this crate are said to answer, in the words of `format`.
use Rattle.std.specs.Prelude.{Err, Ok, Result}
use Rattle.std.specs.Prelude.{ℕ, List, []}
use Rattle.lists.specs.Pick.{pick}
use Rattle.format.specs.Answer.{Read, took, stops, read_at}
use Rattle.format.specs.Descriptor as D
use Rattle.format.specs.Value.{Value, read_value, content_of, is_plp}
use Rattle.value_kind.specs.declared.Span.{Span}
use Rattle.value_look.specs.declared.Seen.{Seen}
use Rattle.value_look.specs.declared.Seen.TheVariants as L
use Rattle.wire.specs.declared.Refusal.{Refusal}

-- short content at a place: "handed back as that part of the caller's own bytes"; none of a value that has none, of PLP content and of a refusal

abbrev pub content_read : Read Value → List ℕ
content_read (took v n) = content_of v
content_read (stops e) = []

unfoldable pub short_content : D.Column → List ℕ → ℕ → List ℕ
short_content c s at = pick (is_plp c) [] (content_read (read_at (read_value c) s at))

-- the part that was seen, counted from the value's first byte
abbrev pub part_seen : Result Seen Refusal → Span
part_seen (Ok (L.Null n)) = record { start = 0; count = 0 }
part_seen (Ok (L.Scalar k at)) = record { start = 0; count = 0 }
part_seen (Ok (L.Part k start count)) = record { start = start; count = count }
part_seen (Ok (L.Plp k)) = record { start = 0; count = 0 }
part_seen (Err e) = record { start = 0; count = 0 }
