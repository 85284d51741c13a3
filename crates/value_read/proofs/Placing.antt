-- A value at a place of the input: behind the end refusal 1, then rule 6, then what was read of the rest.
-- Assumes nothing.
use Rattle.std.specs.Prelude.{Option}
use mathlib.Core.Path.{◌≡◌, sym}
use mathlib.Core.Bool.{true, false}
use mathlib.Core.List.{List}
use Prim.Native.Nat.{ℕ, ◌-◌, ◌<◌, ◌≤◌}
use native.Mathlib.Nat.{sub-zero}
use lib.ListN.{length, drop}
use Rattle.format.specs.Answer.{Refusal, missing, rule, Read, stops, further, map_read, read_at, fitted_read, room_after_read}
use Rattle.format.specs.Descriptor as D
use Rattle.format.specs.Descriptor.{keeps_rule}
use Rattle.format.specs.Value.{Family, family_of, read_family, read_value}
use Rattle.format.specs.Found as F
use Rattle.format.proofs.Place.{at_behind}
use Rattle.value_kind.proofs.ColumnLaws.{read-broken, read_kept}
use Rattle.value_found.specs.Told.{behind, room_behind}
use Rattle.value_read.specs.Told.{read_out, room_out}

module _ (c : D.Column) (s : List ℕ) (at : ℕ) (out : List ℕ) where
  -- what a call tells of the value at the place, and what it leaves in the room
  pub record Leaves (told : Read F.Found) (after : List ℕ) : Type 0 where
    pub answered : told ≡ map_read (F.found_of c at 0) (read_out c s at (length out))
    pub stays : after ≡ room_out c s at out

  refused : (e : Refusal) → read_at (read_value c) s at ≡ stops e → Leaves (stops e) out
  unfolding fitted_read room_after_read
  refused e h = record { answered = rw h; stays = rw h }

  pub place_behind_lem : length s < at → Leaves (stops missing) out
  place_behind_lem h = refused missing (at_behind (read_value c) s at h)

  module _ (h : at ≤ length s) where
    pub rule-broken : keeps_rule c ≡ false → Leaves (stops rule) out
    rule-broken k = refused rule (read-broken c s at h k)

    -- what was read of the rest, under the column's family and declared length
    pub place_inside : keeps_rule c ≡ true → (declared : ℕ) (f : Option Family) (rest : List ℕ) (told : Read F.Found) (after : List ℕ)
        → c.length ≡ declared → f ≡ family_of c.type → rest ≡ drop at s
        → told ≡ map_read (F.found_of c at 0) (behind c (read_family declared f rest) at (length out - 0))
        → after ≡ room_behind c (read_family declared f rest) at 0 out → Leaves told after
    place_inside k declared f rest told after l g r a b =
        let e : further at (read_family declared f rest) ≡ read_at (read_value c) s at = sym (read_kept c s at h k declared f rest l g r) in
        record {
          answered = rw (e, sub-zero (length out)) at a;
          stays = rw (e, sub-zero (length out)) at b;
        }
