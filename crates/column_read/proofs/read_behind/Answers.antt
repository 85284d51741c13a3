-- `column_read::read_behind` meets its contract: by what the type has, two numbers make the column, or nothing more is read. Assumes nothing.
use mathlib.Core.Path.{sym, ◌∙◌}
use Rattle.format.specs.Descriptor.{with_scale, with_sort}
use Rattle.wire.proofs.Exit.{exit_is}
use Rattle.column_type.specs.Told.{type_told}
use Rattle.column_read.specs.Told.{read_pair}
use Rattle.column_read.proofs.Laws.{behind, nothing_behind}
use Rattle.column_read.proofs.read_behind.Goals as goal

pub returns-in_err-precision : goal.returns-in_err-precision
returns-in_err-precision c =
    let a = c.args in
    let make = with_scale (type_told a.t) a.n in
    let d = sym c.has_digits.ensures ∙ c.if-has_digits.true in
    rw (exit_is _ _ c.from_residual.ensures.1)
    (sym (behind (type_told a.t) a.n a.s.now a.cursor.at (read_pair 1 make) (λ l. rw d) ∙ sym (c.in_err-precision.ensures.0 make)), λ p. tt)

pub returns-then-has_digits : goal.returns-then-has_digits
returns-then-has_digits c =
    let a = c.args in
    let make = with_scale (type_told a.t) a.n in
    let d = sym c.has_digits.ensures ∙ c.if-has_digits.true in
    (sym (behind (type_told a.t) a.n a.s.now a.cursor.at (read_pair 1 make) (λ l. rw d) ∙ sym (c.in_ok-precision.ensures.0 make)), λ p. tt)

pub returns-in_err-info : goal.returns-in_err-info
returns-in_err-info c =
    let a = c.args in
    let make = with_sort (type_told a.t) a.n in
    let d = sym c.has_digits.ensures ∙ c.if-has_digits.false in
    let k = sym c.has_collation.ensures ∙ c.if-has_collation.true in
    rw (exit_is _ _ c.from_residual-in_err-info.ensures.1)
    (sym (behind (type_told a.t) a.n a.s.now a.cursor.at (read_pair 4 make) (λ l. rw (d, k)) ∙ sym (c.in_err-info.ensures.0 make)), λ p. tt)

pub returns-then-has_collation : goal.returns-then-has_collation
returns-then-has_collation c =
    let a = c.args in
    let make = with_sort (type_told a.t) a.n in
    let d = sym c.has_digits.ensures ∙ c.if-has_digits.false in
    let k = sym c.has_collation.ensures ∙ c.if-has_collation.true in
    (sym (behind (type_told a.t) a.n a.s.now a.cursor.at (read_pair 4 make) (λ l. rw (d, k)) ∙ sym (c.in_ok-info.ensures.0 make)), λ p. tt)

pub returns : goal.returns
returns c =
    let a = c.args in
    let d = sym c.has_digits.ensures ∙ c.if-has_digits.false in
    let k = sym c.has_collation.ensures ∙ c.if-has_collation.false in
    let e = nothing_behind (type_told a.t) a.n a.s.now a.cursor.at d k c.requires in
    (rw c.plain.ensures (sym e), λ p. rw c.plain.ensures tt)
