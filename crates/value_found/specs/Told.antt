-- What this crate's declared types tell, in the words of `format`: a value by where its content stands.
use Rattle.std.specs.Prelude.{Err, Ok, Result}
use Rattle.std.specs.Prelude.{ℕ, ◌-◌, List, ◌++◌, length, take, drop}
use Rattle.format.specs.Answer.{Read, took, stops, further, map_read, fitted_read, room_after_read}
use Rattle.format.specs.Descriptor as D
use Rattle.format.specs.Plp.{read_plp}
use Rattle.format.specs.Value.{Value, ContentKind, is_text, content_value, copied_out}
use Rattle.format.specs.Found as F
use Rattle.wire.specs.Told.{refusal_told}
use Rattle.value_kind.specs.Told.{scalar_told, Canonical}
use Rattle.value_found.specs.declared.Stand.{Stand}
use Rattle.value_found.specs.declared.Stand.TheVariants as St
use Rattle.value_found.specs.declared.Found.{Found}
use Rattle.value_found.specs.declared.Found.TheVariants as Fo
use Rattle.wire.specs.declared.Cursor.{Cursor}
use Rattle.wire.specs.declared.Refusal.{Refusal}

abbrev pub stand_told : Stand → F.Stand
stand_told (St.Input p) = F.in_input p.start p.count
stand_told (St.Room p) = F.in_room p.start p.count

abbrev pub found_told : Found → F.Found
found_told Fo.Null = F.Found.null
found_told (Fo.Scalar v) = F.Found.scalar (scalar_told v)
found_told (Fo.Binary p) = F.Found.binary (stand_told p)
found_told (Fo.String p) = F.Found.string (stand_told p)

-- how many bytes of the room found content has
abbrev pub in_room : F.Stand → ℕ
in_room (F.in_input start count) = 0
in_room (F.in_room start count) = count

abbrev pub room_count : F.Found → ℕ
room_count F.Found.null = 0
room_count (F.Found.scalar v) = 0
room_count (F.Found.binary p) = in_room p
room_count (F.Found.string p) = in_room p

-- what was read, and the next place
abbrev pub value_read_told : Result (Found × Cursor) Refusal → Read F.Found
value_read_told (Ok (f, c)) = took (found_told f) c.at
value_read_told (Err e) = stops (refusal_told e)

-- a scalar that was read is the canonical one
abbrev pub CanonicalFound : Found → Type 0
CanonicalFound Fo.Null = Unit {0}
CanonicalFound (Fo.Scalar v) = Canonical v
CanonicalFound (Fo.Binary p) = Unit {0}
CanonicalFound (Fo.String p) = Unit {0}

abbrev pub CanonicalRead : Result (Found × Cursor) Refusal → Type 0
CanonicalRead (Ok (f, c)) = CanonicalFound f
CanonicalRead (Err e) = Unit {0}

-- ---- what was read of the rest of the input from a place on, with the room behind what was copied before

abbrev pub content_found : ContentKind → F.Stand → F.Found
content_found ContentKind.binary p = F.Found.binary p
content_found ContentKind.string p = F.Found.string p

-- a PLP value of a kind
abbrev pub plp_value : ContentKind → List ℕ → Read Value
plp_value k rest = map_read (content_value k) (read_plp (is_text k) rest)

abbrev pub behind : D.Column → Read Value → ℕ → ℕ → Read Value
behind c r at size = fitted_read (copied_out c) (further at r) size

abbrev pub found_behind : D.Column → Read Value → ℕ → ℕ → List ℕ → Read F.Found
found_behind c r at copied out = map_read (F.found_of c at copied) (behind c r at (length out - copied))

abbrev pub room_behind : D.Column → Read Value → ℕ → ℕ → List ℕ → List ℕ
room_behind c r at copied out = take copied out ++ room_after_read (copied_out c) (behind c r at (length out - copied)) (drop copied out)
