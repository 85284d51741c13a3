-- `scalar_read::inner::scalar_at` meets its contract: by the kind, each by its own reader. Assumes nothing.
use mathlib.Core.Path.{ap, ◌∙◌}
use Prim.Native.Nat.{◌+◌, ◌≤◌}
use native.Mathlib.Omega.{arith}
use mir.Syntax.{w16, w32, w64}
use lib.Dec.{lit≤}
use lib.ListN.{length}
use Rattle.format.specs.Scalar as S
use Rattle.format.specs.Scalar.{scalar_of}
use Rattle.format.proofs.Number.{Bytes}
use Rattle.value_kind.specs.Told.{made32, made64}
use Rattle.value_kind.proofs.Canonical.{float32_read, float64_read}
use Rattle.scalar_read.proofs.Reading.{whole, guid_there}
use Rattle.scalar_read.proofs.inner.scalar_at.Goals as goal

pub low_at-requires : goal.low_at-requires
low_at-requires c = (lit≤ tt, rw c.in-Bit.is at c.requires)

pub low_at-requires-in-U8 : goal.low_at-requires-in-U8
low_at-requires-in-U8 c = (lit≤ tt, rw c.in-U8.is at c.requires)

pub low_at-requires-in-I16 : goal.low_at-requires-in-I16
low_at-requires-in-I16 c = (lit≤ tt, rw c.in-I16.is at c.requires)

pub low_at-requires-in-I32 : goal.low_at-requires-in-I32
low_at-requires-in-I32 c = (lit≤ tt, rw c.in-I32.is at c.requires)

pub low_at-requires-in-I64 : goal.low_at-requires-in-I64
low_at-requires-in-I64 c = (lit≤ tt, rw c.in-I64.is at c.requires)

pub low_at-requires-in-F32 : goal.low_at-requires-in-F32
low_at-requires-in-F32 c = (lit≤ tt, rw c.in-F32.is at c.requires)

pub low_at-requires-in-F64 : goal.low_at-requires-in-F64
low_at-requires-in-F64 c = (lit≤ tt, rw c.in-F64.is at c.requires)

pub guid_at-requires : goal.guid_at-requires
guid_at-requires c = rw c.in-Guid.is at c.requires

pub returns-in-Bit : goal.returns-in-Bit
unfolding scalar_of
returns-in-Bit c =
    record {
      told = rw (c.in-Bit.is, c.low_at.ensures.value);
      canonical = tt;
    }

pub returns-in-U8 : goal.returns-in-U8
unfolding scalar_of
returns-in-U8 c =
    record {
      told = rw (c.in-U8.is, c.low_at-in-U8.ensures.value);
      canonical = tt;
    }

pub returns-in-I16 : goal.returns-in-I16
unfolding scalar_of
returns-in-I16 c =
    let e = ap S.Scalar.i16 (whole w16 c.to_i16.result c.to_i16.type_inv) in
    record {
      told = e ∙ rw (c.in-I16.is, c.to_i16.ensures, c.low_at-in-I16.ensures.value);
      canonical = tt;
    }

pub returns-in-I32 : goal.returns-in-I32
unfolding scalar_of
returns-in-I32 c =
    let e = ap S.Scalar.i32 (whole w32 c.to_i32.result c.to_i32.type_inv) in
    record {
      told = e ∙ rw (c.in-I32.is, c.to_i32.ensures, c.low_at-in-I32.ensures.value);
      canonical = tt;
    }

pub returns-in-I64 : goal.returns-in-I64
unfolding scalar_of
returns-in-I64 c =
    let e = ap S.Scalar.i64 (whole w64 c.to_i64.result c.to_i64.type_inv) in
    record {
      told = e ∙ rw (c.in-I64.is, c.to_i64.ensures, c.low_at-in-I64.ensures.value);
      canonical = tt;
    }

pub returns-in-F32 : goal.returns-in-F32
unfolding scalar_of
returns-in-F32 c =
    let p = float32_read c.low_at-in-F32.result c.low_at-in-F32.ensures.small in
    let e = c.from-in-F32.ensures ∙ ap made32 c.from.ensures in
    record {
      told = rw (c.in-F32.is, e, ← c.low_at-in-F32.ensures.value) p.0;
      canonical = rw e p.1;
    }

pub returns-in-F64 : goal.returns-in-F64
unfolding scalar_of
returns-in-F64 c =
    let p = float64_read c.low_at-in-F64.result c.low_at-in-F64.ensures.small in
    let e = c.from-in-F64-2.ensures ∙ ap made64 c.from-in-F64.ensures in
    record {
      told = rw (c.in-F64.is, e, ← c.low_at-in-F64.ensures.value) p.0;
      canonical = rw e p.1;
    }

pub returns-in-Guid : goal.returns-in-Guid
unfolding scalar_of
returns-in-Guid c =
    let a = c.args in
    let there : a.at + 16 ≤ length a.s.now = rw c.in-Guid.is at c.requires in
    let bytes : Bytes a.s.now = λ i. omega (arith, c.type_inv.s i) in
    let e = guid_there a.s.now a.at there bytes in
    let fits = c.guid_at.type_inv in
    record {
      told = rw (c.in-Guid.is, c.guid_at.ensures) e;
      canonical = (omega arith, omega arith);
    }
