-- What the exported function gives of a search, in the number and the memory that it answers with.
use Rattle.std.specs.Prelude.{List, ℕ}
use Rattle.rounding.specs.declared.Rooted.{Rooted}
use Rattle.rounding.specs.Root.{root}

-- a search for the root of n with its rounds and its candidates
abbrev pub rooted : ℕ → ℕ → List ℕ → Rooted
rooted n rounds tried = record { root = root n; rounds = rounds; tried = tried }
