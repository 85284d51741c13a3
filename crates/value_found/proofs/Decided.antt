-- What is told of a value that was found has one value that tells it: the kind and the places have an inverse, and a scalar is the canonical one.
-- Assumes nothing.
use mathlib.Core.Path.{◌≡◌, refl, sym, ap, ◌∙◌}
use Prim.Native.Nat.{ℕ}
use Rattle.lists.proofs.Split.{clash}
use Rattle.format.specs.Found as F
use Rattle.format.proofs.Decided.{Undoes, decided}
use Rattle.value_kind.specs.Told.{scalar_told}
use Rattle.value_kind.proofs.Canonical.{canonical_one}
use Rattle.value_found.specs.declared.Stand.{Stand}
use Rattle.value_found.specs.declared.Stand.TheVariants as St
use Rattle.value_found.specs.declared.Found.{Found}
use Rattle.value_found.specs.declared.Found.TheVariants as Fo
use Rattle.value_found.specs.Told.{stand_told, found_told, in_room, room_count, CanonicalFound}

abbrev stand_back : F.Stand → Stand
stand_back (F.in_input start count) = St.Input (record { start = start; count = count })
stand_back (F.in_room start count) = St.Room (record { start = start; count = count })

stand_undoes : Undoes stand_told stand_back
stand_undoes (St.Input p) = refl
stand_undoes (St.Room p) = refl

stand_one : (p q : Stand) → stand_told p ≡ stand_told q → p ≡ q
stand_one p q e = decided stand_told stand_back stand_undoes p q (stand_told q) e refl

pub found_one : (x y : Found) → CanonicalFound x → CanonicalFound y → found_told x ≡ found_told y → x ≡ y
found_one Fo.Null Fo.Null p q e = refl
found_one Fo.Null (Fo.Scalar w) p q e = clash cc
found_one Fo.Null (Fo.Binary b) p q e = clash cc
found_one Fo.Null (Fo.String b) p q e = clash cc
found_one (Fo.Scalar v) Fo.Null p q e = clash cc
found_one (Fo.Scalar v) (Fo.Scalar w) p q e = let s : scalar_told v ≡ scalar_told w = cc in ap Fo.Scalar (canonical_one v w p q s)
found_one (Fo.Scalar v) (Fo.Binary b) p q e = clash cc
found_one (Fo.Scalar v) (Fo.String b) p q e = clash cc
found_one (Fo.Binary a) Fo.Null p q e = clash cc
found_one (Fo.Binary a) (Fo.Scalar w) p q e = clash cc
found_one (Fo.Binary a) (Fo.Binary b) p q e = let s : stand_told a ≡ stand_told b = cc in ap Fo.Binary (stand_one a b s)
found_one (Fo.Binary a) (Fo.String b) p q e = clash cc
found_one (Fo.String a) Fo.Null p q e = clash cc
found_one (Fo.String a) (Fo.Scalar w) p q e = clash cc
found_one (Fo.String a) (Fo.Binary b) p q e = clash cc
found_one (Fo.String a) (Fo.String b) p q e = let s : stand_told a ≡ stand_told b = cc in ap Fo.String (stand_one a b s)

-- how many bytes of the room it has, is one number
pub in_room_decided : (p : Stand) (m n : ℕ) → m ≡ in_room (stand_told p) → n ≡ in_room (stand_told p) → m ≡ n
in_room_decided p m n e f = e ∙ sym f

pub copied_decided : (x : Found) (m n : ℕ) → m ≡ room_count (found_told x) → n ≡ room_count (found_told x) → m ≡ n
copied_decided x m n e f = e ∙ sym f
