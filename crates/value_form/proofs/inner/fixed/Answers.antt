-- `value_form::inner::fixed` meets its contract: the bytes as they came, but for a bit. Assumes nothing.
use mathlib.Core.Path.{◌≡◌, sym, ap, ◌∙◌}
use Prim.Native.Nat.{◌≤◌}
use native.Mathlib.Omega.{arith}
use lib.ListN.{length}
use Rattle.format.specs.Scalar as S
use Rattle.format.specs.Scalar.{same_kind, width}
use Rattle.format.proofs.Answer.{no_truth}
use Rattle.format.proofs.LengthByte.{same_kind_lem}
use Rattle.format.proofs.Number.{Bytes}
use Rattle.value_kind.specs.declared.kinds.Kind.TheVariants as Kind
use Rattle.value_kind.specs.Told.{kind_told}
use Rattle.value_kind.proofs.ScalarLaws.{same_kinds}
use Rattle.value_form.proofs.Forming.{fixed-inside, fixed_same, fixed-bit}
use Rattle.value_form.proofs.inner.fixed.Goals.{Start, Then-eq}
use Rattle.value_form.proofs.inner.fixed.Goals as goal

-- the value lies inside
inside : (c : Start) → width (kind_told c.args.k) ≤ length c.args.rest.now
inside c = fixed-inside (kind_told c.args.k) c.args.rest.now c.requires.0 c.requires.1

-- it is the bit
is-bit : (c : Then-eq) → kind_told c.args.k ≡ S.Kind.bit
is-bit c = same_kind_lem _ S.Kind.bit (sym (same_kinds c.args.k Kind.Bit) ∙ (sym c.eq.ensures ∙ c.if-eq.true))

pub bit-requires : goal.bit-requires
bit-requires c = omega (arith, inside (goal.at.bit-requires c).Start, ap width (is-bit c))

pub returns-then-eq : goal.returns-then-eq
returns-then-eq c d =
    let a = c.args in
    c.bit.ensures ∙ fixed-bit (kind_told a.k) a.rest.now d (is-bit (goal.at.returns-then-eq c).Then-eq)
    (omega (arith, inside (goal.at.returns-then-eq c).Start, ap width (is-bit (goal.at.returns-then-eq c).Then-eq)))

pub returns : goal.returns
returns c d =
    let k = kind_told c.args.k in
    let s = c.args.rest.now in
    let bytes : Bytes s = λ i. omega (arith, c.type_inv.rest i) in
    let asked = sym c.if-eq.false ∙ (c.eq.ensures ∙ same_kinds c.args.k Kind.Bit) in
    let not_bit : k ≡ S.Kind.bit → ⊥ = λ e. no_truth (asked ∙ ap (λ (j : S.Kind). same_kind j S.Kind.bit) e) in
    rw c.bytes.ensures (fixed_same k s d (inside (goal.at.returns c).Start) not_bit bytes)
