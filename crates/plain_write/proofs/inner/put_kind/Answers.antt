-- `plain_write::inner::put_kind` meets its contract: arm by arm, the kinds of an arm by their width. Assumes nothing.
use mathlib.Core.Path.{◌≡◌, refl, ap, ◌∙◌}
use mathlib.Core.Logic.{inl, inr}
use mathlib.Core.List.{[], ◌∷◌}
use Prim.Native.Nat.{ℕ, ◌<◌}
use native.Mathlib.Omega.{arith}
use lib.ListN.{get_or}
use lib.Seq.{sets}
use types.Run.{OneOf}
use denote.Enum.Declared.{tag_of}
use Rattle.format.specs.Number.{low_bytes}
use Rattle.format.specs.Scalar.{width}
use Rattle.wire.specs.Told.{guid_wire}
use Rattle.value_kind.specs.declared.kinds.Kind.{Kind}
use Rattle.value_kind.specs.contracts.kinds.Kind.{the_type}
use Rattle.value_kind.specs.declared.kinds.Kind.TheVariants as K
use Rattle.value_kind.specs.Told.{kind_told}
use Rattle.plain_write.specs.Bytes.{kind_bytes}
use Rattle.plain_write.proofs.inner.put_kind.Goals as goal

-- the width of a kind by its place among the variants
abbrev width_at : ℕ → ℕ
width_at t = get_or (1 ∷ 1 ∷ 2 ∷ 4 ∷ 8 ∷ 4 ∷ 8 ∷ 16 ∷ []) t 0

width-at : (k : Kind) → width (kind_told k) ≡ width_at (tag_of the_type k)
width-at K.Bit = refl
width-at K.U8 = refl
width-at K.I16 = refl
width-at K.I32 = refl
width-at K.I64 = refl
width-at K.F32 = refl
width-at K.F64 = refl
width-at K.Guid = refl

-- two kinds of one width
of_two : (k : Kind) (a b w : ℕ) → width_at a ≡ w → width_at b ≡ w → OneOf (a ∷ b ∷ []) (tag_of the_type k) → width (kind_told k) ≡ w
of_two k a b w p q (inl e) = width-at k ∙ (ap width_at e ∙ p)
of_two k a b w p q (inr e) = width-at k ∙ (ap width_at e ∙ q)

-- the bytes of a number
low-kind : (k : Kind) (first second w : ℕ) → width (kind_told k) ≡ w → w < 16 → low_bytes w first ≡ kind_bytes (kind_told k) first second
unfolding kind_bytes
low-kind K.Bit first second w e l = rw (← e)
low-kind K.U8 first second w e l = rw (← e)
low-kind K.I16 first second w e l = rw (← e)
low-kind K.I32 first second w e l = rw (← e)
low-kind K.I64 first second w e l = rw (← e)
low-kind K.F32 first second w e l = rw (← e)
low-kind K.F64 first second w e l = rw (← e)
low-kind K.Guid first second w e l = absurd (omega (arith, e, l))

pub put_low-requires : goal.put_low-requires
put_low-requires c = rw (of_two c.args.k 0 1 1 refl refl c.in-Bit.in-Bit-own.keys1) at c.requires

pub put_low-requires-in-I16 : goal.put_low-requires-in-I16
put_low-requires-in-I16 c = rw c.in-I16.is at c.requires

pub put_low-requires-in-I32 : goal.put_low-requires-in-I32
put_low-requires-in-I32 c = rw (of_two c.args.k 3 5 4 refl refl c.in-I32.in-I32-own.keys3) at c.requires

pub put_low-requires-in-I64 : goal.put_low-requires-in-I64
put_low-requires-in-I64 c = rw (of_two c.args.k 4 6 8 refl refl c.in-I64.in-I64-own.keys4) at c.requires

pub put_guid-requires : goal.put_guid-requires
put_guid-requires c = rw c.in-Guid.is at c.requires

pub returns-in-Bit : goal.returns-in-Bit
returns-in-Bit c =
    let a = c.args in
    c.put_low.ensures
    ∙ ap (sets a.out.now a.at) (low-kind a.k a.v.first a.v.second 1 (of_two a.k 0 1 1 refl refl c.in-Bit.in-Bit-own.keys1) (omega arith))

pub returns-in-I16 : goal.returns-in-I16
unfolding kind_bytes
returns-in-I16 c = rw c.in-I16.is c.put_low-in-I16.ensures

pub returns-in-I32 : goal.returns-in-I32
returns-in-I32 c =
    let a = c.args in
    c.put_low-in-I32.ensures
    ∙ ap (sets a.out.now a.at) (low-kind a.k a.v.first a.v.second 4 (of_two a.k 3 5 4 refl refl c.in-I32.in-I32-own.keys3) (omega arith))

pub returns-in-I64 : goal.returns-in-I64
returns-in-I64 c =
    let a = c.args in
    c.put_low-in-I64.ensures
    ∙ ap (sets a.out.now a.at) (low-kind a.k a.v.first a.v.second 8 (of_two a.k 4 6 8 refl refl c.in-I64.in-I64-own.keys4) (omega arith))

pub returns-in-Guid : goal.returns-in-Guid
unfolding kind_bytes guid_wire
returns-in-Guid c = rw c.in-Guid.is c.put_guid.ensures
