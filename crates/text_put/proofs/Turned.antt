-- A text of one form in another, against the two turns of `format`: UTF-8's unit is one byte, so that every count is whole, and UTF-16LE's two.
-- Assumes nothing.
use mathlib.Core.Path.{◌≡◌, refl}
use mathlib.Core.List.{List}
use mathlib.Core.Bool.{not}
use Prim.Native.Nat.{ℕ, ◌%◌}
use native.Mathlib.Omega.{arith}
use lib.ListN.{length}
use lib.Dec.{eqb}
use borrow.Author.Tests.{eq-eqb, ne_eqb}
use Rattle.format.specs.Answer.{gives, refuses, Read, sequence}
use Rattle.format.specs.Text.{char8, utf8, char16, utf16, text_in, text_out}
use Rattle.format.proofs.Answer.{passed}
use Rattle.format.proofs.Characters.{converted}
use Rattle.text_put.specs.Turned.{turned}

module _ (unit : ℕ) (char : List ℕ → Read ℕ) (spell : ℕ → List ℕ) (s : List ℕ) where
  pub turned_gives : (u : List ℕ) → turned unit char spell s ≡ gives u → converted char spell s ≡ gives u
  turned_gives u h = (passed (not (eqb (length s % unit) 0)) sequence (converted char spell s) u h).1

  pub turned_whole : length s % unit ≡ 0 → turned unit char spell s ≡ converted char spell s
  turned_whole h = rw (eq-eqb (length s % unit) 0 h)

  pub turned_odd : (length s % unit ≡ 0 → ⊥) → turned unit char spell s ≡ refuses sequence
  turned_odd h = rw (ne_eqb (length s % unit) 0 h)

pub turned_in : (s : List ℕ) → turned 1 char8 utf16 s ≡ text_in s
unfolding text_in
turned_in s = turned_whole 1 char8 utf16 s (omega arith)

pub turned_out : (u : List ℕ) → turned 2 char16 utf8 u ≡ text_out u
unfolding text_out
turned_out u = refl
