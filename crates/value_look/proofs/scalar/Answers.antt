-- `value_look::scalar` meets its contract: as many bytes as the kind is wide are there, or they are not. Assumes nothing.
use mathlib.Core.Path.{sym, ◌∙◌}
use Prim.Native.Nat.{◌+◌, ◌≤◌, ◌<◌}
use lib.ListN.{length}
use borrow.Author.Tests.{leb-true, leb-false}
use Rattle.format.specs.Scalar.{width}
use Rattle.value_kind.specs.Told.{kind_told}
use Rattle.value_look.proofs.Seeing.{scalar_there, scalar-missing}
use Rattle.value_look.proofs.scalar.Goals as goal

pub returns-then-inside : goal.returns-then-inside
returns-then-inside c =
    let a = c.args in
    let h : a.at + width (kind_told a.k) ≤ length a.rest.now =
    rw c.bytes.ensures at (leb-true (a.at + c.bytes.result) (length a.rest.now) (sym c.inside.ensures ∙ c.if-inside.true)) in
    record {
      told = scalar_there (kind_told a.k) a.rest.now a.at h;
      lies = λ d. h;
    }

pub returns : goal.returns
returns c =
    let a = c.args in
    let h : length a.rest.now < a.at + width (kind_told a.k) =
    rw c.bytes.ensures at (leb-false (a.at + c.bytes.result) (length a.rest.now) (sym c.inside.ensures ∙ c.if-inside.false)) in
    record {
      told = scalar-missing (kind_told a.k) a.rest.now a.at h;
      lies = λ d. tt;
    }
