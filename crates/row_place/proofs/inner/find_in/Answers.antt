-- `row_place::inner::find_in` meets its contract: what was seen of the rest, told of a value and the place behind it. Assumes nothing.
use mathlib.Core.Path.{◌≡◌, ap, ◌∙◌}
use Prim.Native.Nat.{◌+◌}
use native.Mathlib.Omega.{arith}
use Rattle.format.specs.Answer.{Read, took}
use Rattle.format.specs.Value.{Value, read_family}
use Rattle.wire.proofs.Exit.{exit_is}
use Rattle.value_kind.specs.Told.{content_kind_told, family_told, scalar_told}
use Rattle.row_place.specs.Told.{placed_behind}
use Rattle.row_place.proofs.Placing.{null-placed, scalar-placed, stops-placed, part_placed}
use Rattle.row_place.proofs.inner.find_in.Goals as goal

pub returns-in_err-n : goal.returns-in_err-n
returns-in_err-n c =
    let a = c.args in
    let x = exit_is _ _ c.from_residual.ensures.1 in
    record {
      told = λ d l. rw x (stops-placed d a.at a.copied _ _ c.in_err-n.ensures.told);
      canonical = rw x tt;
    }

pub overflow_add-at : goal.overflow_add-at
overflow_add-at c = omega (arith, c.requires, rw c.in-Null.is at c.in_ok-n.ensures.lies)

pub returns-in-Null : goal.returns-in-Null
returns-in-Null c =
    let a = c.args in
    let e = rw c.in-Null.is at c.in_ok-n.ensures.told in
    record {
      told = λ d l. c.placed.ensures.told ∙ null-placed d a.at a.copied _ _ e;
      canonical = c.placed.ensures.canonical;
    }

pub scalar_at-v-requires : goal.scalar_at-v-requires
scalar_at-v-requires c = rw c.in-Scalar.is at c.in_ok-n.ensures.lies

pub overflow_add-from : goal.overflow_add-from
overflow_add-from c = omega (arith, c.requires, c.bytes.ensures, rw c.in-Scalar.is at c.in_ok-n.ensures.lies)

pub overflow_add-at-in-Scalar : goal.overflow_add-at-in-Scalar
overflow_add-at-in-Scalar c = omega (arith, c.requires, c.bytes.ensures, rw c.in-Scalar.is at c.in_ok-n.ensures.lies)

pub placed-requires-in-Scalar : goal.placed-requires-in-Scalar
placed-requires-in-Scalar c = c.scalar_at-v.ensures.canonical

pub returns-in-Scalar : goal.returns-in-Scalar
returns-in-Scalar c =
    let a = c.args in
    let e = rw c.in-Scalar.is at c.in_ok-n.ensures.told in
    let v = scalar_told c.scalar_at-v.result in
    let w = c.bytes.ensures in
    let f : took (Value.scalar v) (c.in-Scalar.from + c.bytes.result) ≡ read_family a.declared (family_told a.f) a.rest.now =
    rw (c.scalar_at-v.ensures.told, w) e in
    record {
      told = λ d l. c.placed-in-Scalar.ensures.told ∙ scalar-placed d a.at a.copied _ _ _ f;
      canonical = c.placed-in-Scalar.ensures.canonical;
    }

pub overflow_add-at-in-Part : goal.overflow_add-at-in-Part
overflow_add-at-in-Part c = let h = rw c.in-Part.is at c.in_ok-n.ensures.lies in omega (arith, c.requires, h.0, h.1)

pub overflow_add-start : goal.overflow_add-start
overflow_add-start c = let h = rw c.in-Part.is at c.in_ok-n.ensures.lies in omega (arith, c.requires, h.0, h.1)

pub overflow_add-at-in-Part-2 : goal.overflow_add-at-in-Part-2
overflow_add-at-in-Part-2 c = let h = rw c.in-Part.is at c.in_ok-n.ensures.lies in omega (arith, c.requires, h.0, h.1)

pub placed-requires-in-Part : goal.placed-requires-in-Part
placed-requires-in-Part c = c.content_found-found.ensures.canonical

pub returns-in-Part : goal.returns-in-Part
returns-in-Part c =
    let a = c.args in
    let k = content_kind_told c.in-Part.k in
    let h = rw c.in-Part.is at c.in_ok-n.ensures.lies in
    let e = rw c.in-Part.is at c.in_ok-n.ensures.told in
    let f = c.content_found-found.ensures.told in
    record {
      told = λ d l. c.placed-in-Part.ensures.told ∙ part_placed d a.at a.copied (rw l h.2) _ k a.rest.now _ _ h.0 h.1 e _ f;
      canonical = c.placed-in-Part.ensures.canonical;
    }

pub returns-in-Plp : goal.returns-in-Plp
returns-in-Plp c =
    let a = c.args in
    let h = rw c.in-Plp.is at c.in_ok-n.ensures.lies in
    let e = rw c.in-Plp.is at c.in_ok-n.ensures.told in
    record {
      told = λ d l. c.plp_value.ensures.told d (rw l h) ∙ ap (λ (r : Read Value). placed_behind d r a.at a.copied) e;
      canonical = c.plp_value.ensures.canonical;
    }
