-- What the calculation of properties needs of a composition, and what every accepted record gives it.
use Rattle.std.specs.Prelude.{◌≡◌, List, ℕ}
use Rattle.components.specs.Composition.{Composition, Ascending, LargeShare}
use Rattle.records.specs.Order.{accepted}
use Rattle.records.specs.Format.{Contents}
use Rattle.records.specs.Calls.{reading_of}

pub record Acceptable (k : Contents) : Type 0 where
  -- its lines are lines of the table, and its fractions add up to at most 1,000,100
  pub composition : Composition k.lines k.fractions
  -- each line number is above the one before
  pub ascending : Ascending 0 k.lines
  -- methane is at its house limit or above it, or hydrogen at that of its class
  pub share : LargeShare k.lines k.fractions

abbrev pub AcceptedIsAcceptable : Type 0
AcceptedIsAcceptable = (bs : List ℕ) (k : Contents) → reading_of bs ≡ accepted k → Acceptable k
