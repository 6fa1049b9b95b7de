-- How the answer of `root_search` says what a search tried.
use Rattle.std.specs.Prelude.{◌≡◌, List, ◌++◌, ℕ, ◌-◌, length, take, replicate}
use Rattle.rounding.specs.declared.Rooted.{Rooted}
use Rattle.rounding.specs.Root.{root}
use Rattle.rounding.specs.Search.{candidates}

-- what a search answers: the root, how many rounds it took, and the candidates that it tried, in their order, with 0 past them
pub record Searched (n : ℕ) (found : Rooted) : Type 0 where
  pub root_is : found.root ≡ root n
  pub rounds_are : found.rounds ≡ length (candidates n)
  pub tried_are : found.tried ≡ candidates n ++ replicate (40 - length (candidates n)) 0

-- the candidates in that answer
abbrev pub tried_in : Rooted → List ℕ
tried_in found = take found.rounds found.tried
