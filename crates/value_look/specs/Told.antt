-- What this crate's declared types tell of the rest of a row, in the words of `format`: a second definition of the value that it begins with, by places
-- and counts.
use Rattle.std.specs.Prelude.{Err, None, Ok, Option, Result, Some}
use Rattle.std.specs.Prelude.{ℕ, ◌+◌, ◌≤◌, ◌≡◌, true, false, List, eqb, length, take, drop}
use Rattle.format.specs.Answer.{Read, took, stops, map_read}
use Rattle.format.specs.Scalar as S
use Rattle.format.specs.Scalar.{width, scalar_of}
use Rattle.format.specs.Plp.{plp_mark, read_plp}
use Rattle.format.specs.Value.{Value, is_text, content_value}
use Rattle.wire.specs.Told.{refusal_told}
use Rattle.value_kind.specs.Told.{kind_told, content_kind_told}
use Rattle.value_kind.specs.declared.kinds.Kind.{Kind}
use Rattle.value_look.specs.declared.Seen.{Seen}
use Rattle.value_look.specs.declared.Seen.TheVariants as L
use Rattle.wire.specs.declared.Refusal.{Refusal}

abbrev pub listed_kind_told : Option Kind → Option S.Kind
listed_kind_told (Some k) = Some (kind_told k)
listed_kind_told None = None

-- the value that is seen, and how many bytes it took
abbrev pub seen_told : List ℕ → Result Seen Refusal → Read Value
seen_told s (Ok (L.Null n)) = took Value.null n
seen_told s (Ok (L.Scalar k at)) = took (Value.scalar (scalar_of (kind_told k) (take (width (kind_told k)) (drop at s)))) (at + width (kind_told k))
seen_told s (Ok (L.Part k start count)) = took (content_value (content_kind_told k) (Some (take count (drop start s)))) (start + count)
seen_told s (Ok (L.Plp k)) = map_read (content_value (content_kind_told k)) (read_plp (is_text (content_kind_told k)) s)
seen_told s (Err e) = stops (refusal_told e)

-- the bytes that are named lie inside; short content stands behind its two length bytes; content is PLP by its declared length
abbrev pub Lies : ℕ → List ℕ → Result Seen Refusal → Type 0
Lies declared s (Ok (L.Null n)) = n ≤ length s
Lies declared s (Ok (L.Scalar k at)) = at + width (kind_told k) ≤ length s
Lies declared s (Ok (L.Part k start count)) = (start ≡ 2) × (start + count ≤ length s) × (eqb declared plp_mark ≡ false)
Lies declared s (Ok (L.Plp k)) = eqb declared plp_mark ≡ true
Lies declared s (Err e) = Unit {0}
