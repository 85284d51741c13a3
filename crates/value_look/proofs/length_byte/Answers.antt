-- `value_look::length_byte` meets its contract: null, then a listed width, then the declared length, then the bytes, in the definition's order.
-- Assumes nothing.
use mathlib.Core.Path.{sym, ◌∙◌}
use Prim.Native.Nat.{◌<◌}
use native.Mathlib.Omega.{arith}
use lib.ListN.{length}
use borrow.Author.Tests.{eqb-true, eqb-false}
use Rattle.format.specs.Value.{read_length_byte}
use Rattle.value_kind.specs.Told.{listed_told}
use Rattle.value_look.proofs.Seeing.{no_byte, byte-null, byte_unlisted, byte-long, byte_scalar}
use Rattle.value_look.proofs.length_byte.Goals as goal

pub returns-then-is_empty : goal.returns-then-is_empty
returns-then-is_empty c =
    let a = c.args in
    record {
      told = no_byte (read_length_byte (listed_told a.l) a.declared) a.rest.now (eqb-true _ _ (sym c.is_empty.ensures ∙ c.if-is_empty.true));
      lies = tt;
    }

pub returns-then-n-eq0 : goal.returns-then-n-eq0
returns-then-n-eq0 c =
    let a = c.args in
    let h : 0 < length a.rest.now = omega (arith, eqb-false _ _ (sym c.is_empty.ensures ∙ c.if-is_empty.false)) in
    record {
      told = byte-null (listed_told a.l) a.declared a.rest.now h c.if-n-eq0.true;
      lies = h;
    }

pub overflow_cast-n : goal.overflow_cast-n
overflow_cast-n c = omega (arith, c.type_inv.rest 0)

pub returns-then-declared-n : goal.returns-then-declared-n
returns-then-declared-n c =
    let a = c.args in
    let h : 0 < length a.rest.now = omega (arith, eqb-false _ _ (sym c.is_empty.ensures ∙ c.if-is_empty.false)) in
    record {
      told = byte-long (listed_told a.l) a.declared a.rest.now h c.if-n-eq0.false _ c.in-Some.ensures c.if-declared-n.true;
      lies = tt;
    }

pub returns-else-declared-n : goal.returns-else-declared-n
returns-else-declared-n c =
    let a = c.args in
    let h : 0 < length a.rest.now = omega (arith, eqb-false _ _ (sym c.is_empty.ensures ∙ c.if-is_empty.false)) in
    let e = byte_scalar (listed_told a.l) a.declared a.rest.now h c.if-n-eq0.false _ c.in-Some.ensures c.if-declared-n.false in
    record {
      told = c.scalar.ensures.told ∙ e;
      lies = c.scalar.ensures.lies a.declared;
    }

pub returns-in-None : goal.returns-in-None
returns-in-None c =
    let a = c.args in
    let h : 0 < length a.rest.now = omega (arith, eqb-false _ _ (sym c.is_empty.ensures ∙ c.if-is_empty.false)) in
    record {
      told = byte_unlisted (listed_told a.l) a.declared a.rest.now h c.if-n-eq0.false c.in-None.ensures;
      lies = tt;
    }
