-- `value_found::inner::read_in` meets its contract: what was seen of the rest, told of a value. Assumes nothing.
use mathlib.Core.Path.{◌≡◌, ap, ◌∙◌}
use Prim.Native.Nat.{◌+◌, ◌-◌}
use native.Mathlib.Omega.{arith}
use lib.ListN.{length}
use Rattle.format.specs.Answer.{Read, took, map_read}
use Rattle.format.specs.Value.{Value, read_family}
use Rattle.format.specs.Found.{found_of}
use Rattle.wire.proofs.Exit.{exit_is}
use Rattle.value_kind.specs.Told.{content_kind_told, family_told, scalar_told}
use Rattle.value_found.specs.Told.{behind, room_behind}
use Rattle.value_found.proofs.Finding.{same_found, null-found, scalar-found, stops-found, part-found}
use Rattle.value_found.proofs.inner.read_in.Goals as goal

pub returns-in_err-n : goal.returns-in_err-n
returns-in_err-n c =
    let a = c.args in
    let x = exit_is _ _ c.from_residual.ensures.1 in
    let e = c.in_err-n.ensures.told in
    record {
      told = λ d l. rw x (stops-found d a.at a.copied a.out.now _ _ e).answered;
      canonical = rw x tt;
      room = λ d l. (stops-found d a.at a.copied a.out.now _ _ e).stays;
    }

pub overflow_add-result : goal.overflow_add-result
overflow_add-result c = omega (arith, c.requires.0, rw c.in-Null.is at c.in_ok-n.ensures.lies)

pub returns-in-Null : goal.returns-in-Null
returns-in-Null c =
    let a = c.args in
    let e = rw c.in-Null.is at c.in_ok-n.ensures.told in
    record {
      told = λ d l. (null-found d a.at a.copied a.out.now _ _ e).answered;
      canonical = tt;
      room = λ d l. (null-found d a.at a.copied a.out.now _ _ e).stays;
    }

pub scalar_at-v-requires : goal.scalar_at-v-requires
scalar_at-v-requires c = rw c.in-Scalar.is at c.in_ok-n.ensures.lies

pub overflow_add-next : goal.overflow_add-next
overflow_add-next c = omega (arith, c.requires.0, c.bytes.ensures, rw c.in-Scalar.is at c.in_ok-n.ensures.lies)

pub overflow_add-next-in-Scalar : goal.overflow_add-next-in-Scalar
overflow_add-next-in-Scalar c = omega (arith, c.requires.0, c.bytes.ensures, rw c.in-Scalar.is at c.in_ok-n.ensures.lies)

pub returns-in-Scalar : goal.returns-in-Scalar
returns-in-Scalar c =
    let a = c.args in
    let e = rw c.in-Scalar.is at c.in_ok-n.ensures.told in
    let v = scalar_told c.scalar_at-v.result in
    let f : took (Value.scalar v) (c.in-Scalar.from + c.bytes.result) ≡ read_family a.declared (family_told a.f) a.rest.now =
    rw (c.scalar_at-v.ensures.told, c.bytes.ensures) e in
    record {
      told = λ d l. (scalar-found d a.at a.copied a.out.now _ _ _ f).answered;
      canonical = c.scalar_at-v.ensures.canonical;
      room = λ d l. (scalar-found d a.at a.copied a.out.now _ _ _ f).stays;
    }

pub overflow_add-at : goal.overflow_add-at
overflow_add-at c = let h = rw c.in-Part.is at c.in_ok-n.ensures.lies in omega (arith, c.requires.0, h.0, h.1)

pub overflow_add-next-in-Part : goal.overflow_add-next-in-Part
overflow_add-next-in-Part c = let h = rw c.in-Part.is at c.in_ok-n.ensures.lies in omega (arith, c.requires.0, h.0, h.1)

pub overflow_add-next-in-Part-2 : goal.overflow_add-next-in-Part-2
overflow_add-next-in-Part-2 c = let h = rw c.in-Part.is at c.in_ok-n.ensures.lies in omega (arith, c.requires.0, h.0, h.1)

pub returns-in-Part : goal.returns-in-Part
returns-in-Part c =
    let a = c.args in
    let k = content_kind_told c.in-Part.k in
    let h = rw c.in-Part.is at c.in_ok-n.ensures.lies in
    let e = rw c.in-Part.is at c.in_ok-n.ensures.told in
    record {
      told = λ d l. same_found _ c.content_found-found.ensures.told ∙ (part-found d a.at a.copied a.out.now (rw l h.2) _ k a.rest.now _ _ h.0 h.1 e).answered;
      canonical = c.content_found-found.ensures.canonical;
      room = λ d l. (part-found d a.at a.copied a.out.now (rw l h.2) _ k a.rest.now _ _ h.0 h.1 e).stays;
    }

pub returns-in-Plp : goal.returns-in-Plp
returns-in-Plp c =
    let a = c.args in
    let h = rw c.in-Plp.is at c.in_ok-n.ensures.lies in
    let e = rw c.in-Plp.is at c.in_ok-n.ensures.told in
    record {
      told = λ d l. c.join_value.ensures.told d (rw l h) ∙ ap
          (λ (r : Read Value). map_read (found_of d a.at a.copied) (behind d r a.at (length a.out.now - a.copied))) e;
      canonical = c.join_value.ensures.canonical;
      room = λ d l. c.join_value.ensures.room d (rw l h) ∙ ap (λ (r : Read Value). room_behind d r a.at a.copied a.out.now) e;
    }
