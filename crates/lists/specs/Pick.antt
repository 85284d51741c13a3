-- The choice by a test, the one that every definition of the repository uses.
use Rattle.std.specs.Prelude.{Bool, true, false}

-- x where the test holds, y where it does not
abbrev pub pick : {A : Type 0} → Bool → A → A → A
pick true x y = x
pick false x y = y
