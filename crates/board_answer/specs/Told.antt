-- What the calls for C and Rust answer, in the words of `format`.
use Rattle.std.specs.Prelude.{ℕ, Bool, eqb, ltb}
use Rattle.format.specs.Answer.{Answer, gives, refuses, Read, took, stops, unknown, refuse_if, number}
use Rattle.board_answer.specs.declared.Counted.{Counted}

-- a flag is 0 or 1; another number is 2
abbrev pub flag_given : ℕ → Answer Bool
flag_given n = refuse_if (ltb 1 n) unknown (gives (eqb n 1))

-- 0 and the count, or the refusal's number in document 01's table and 0
abbrev pub counted : Answer ℕ → Counted
counted (gives n) = record { refusal = 0; count = n }
counted (refuses e) = record { refusal = number e; count = 0 }

-- a reader's count is the next place
abbrev pub place : {A : Type 0} → Read A → Answer ℕ
place (took v next) = gives next
place (stops e) = refuses e

-- what a reader leaves in a lent place: what was read; at a refusal, what stood there before
abbrev pub after : {A : Type 0} → Read A → A → A
after (took v next) before = v
after (stops e) before = before
