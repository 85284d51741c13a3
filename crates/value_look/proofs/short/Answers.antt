-- `value_look::short` meets its contract: null, then the declared length, then an even count, then the content, in the definition's order. Assumes nothing.
use mathlib.Core.Path.{refl, sym, ◌∙◌}
use native.Mathlib.Omega.{arith}
use Rattle.format.specs.Value.{read_short}
use Rattle.value_kind.specs.Told.{content_kind_told}
use Rattle.value_look.proofs.Seeing.{no_length, short_null_lem, short-long, short-odd, short-missing, short_there}
use Rattle.value_look.proofs.short.Goals as goal

pub returns-then-rest-lt2 : goal.returns-then-rest-lt2
returns-then-rest-lt2 c =
    let a = c.args in
    record {
      told = no_length (read_short (content_kind_told a.k) a.declared) a.rest.now c.if-rest-lt2.true;
      lies = λ t. tt;
    }

pub returns-then-n : goal.returns-then-n
returns-then-n c =
    let a = c.args in
    let k = content_kind_told a.k in
    record {
      told = short_null_lem k a.declared a.rest.now _ c.low_at-n.ensures.value c.if-rest-lt2.false c.if-n.true;
      lies = λ t. c.if-rest-lt2.false;
    }

pub returns-then-declared-n : goal.returns-then-declared-n
returns-then-declared-n c =
    let a = c.args in
    let k = content_kind_told a.k in
    let e = short-long k a.declared a.rest.now _ c.low_at-n.ensures.value c.if-rest-lt2.false c.if-n.false c.if-declared-n.true in
    record {
      told = e;
      lies = λ t. tt;
    }

pub returns-then-is_odd : goal.returns-then-is_odd
returns-then-is_odd c =
    let a = c.args in
    let k = content_kind_told a.k in
    let o = rw c.is_text.ensures at (sym c.is_odd.ensures ∙ c.if-is_odd.true) in
    let e = short-odd k a.declared a.rest.now _ c.low_at-n.ensures.value c.if-rest-lt2.false c.if-n.false c.if-declared-n.false o in
    record {
      told = e;
      lies = λ t. tt;
    }

pub returns-then-rest-n : goal.returns-then-rest-n
returns-then-rest-n c =
    let a = c.args in
    let k = content_kind_told a.k in
    let o = rw c.is_text.ensures at (sym c.is_odd.ensures ∙ c.if-is_odd.false) in
    let e = short-missing k a.declared a.rest.now _ c.low_at-n.ensures.value c.if-rest-lt2.false c.if-n.false
    c.if-declared-n.false o (omega arith) in
    record {
      told = e;
      lies = λ t. tt;
    }

pub returns : goal.returns
returns c =
    let a = c.args in
    let k = content_kind_told a.k in
    let o = rw c.is_text.ensures at (sym c.is_odd.ensures ∙ c.if-is_odd.false) in
    let e = short_there k a.declared a.rest.now _ c.low_at-n.ensures.value c.if-rest-lt2.false c.if-n.false
    c.if-declared-n.false o (omega arith) in
    record {
      told = e;
      lies = λ t. (refl, omega arith, t);
    }
