-- The search for r, the root of d × 10^10, in every accepted record (W-203 of document 02).
use Rattle.std.specs.Prelude.{◌≡◌, List, ℕ, ◌*◌, ◌^◌}
use Rattle.rounding.specs.declared.Rooted.{Rooted}
use Rattle.rounding.specs.Search.{RootInRounds, most_rounds_of_gases}
use Rattle.rounding.specs.Answers.{Searched, tried_in}
use Rattle.records.specs.Order.{accepted}
use Rattle.records.specs.Format.{Contents}
use Rattle.records.specs.Calls.{reading_of}
use Rattle.properties.specs.Chain.{d}

-- whatever `root_search` answers by its contract, it keeps W-203 with 6 rounds at most
abbrev pub AcceptedRounds : Type 0
AcceptedRounds =
    (bs : List ℕ) (k : Contents) (found : Rooted)
    → reading_of bs ≡ accepted k
    → Searched (d k * 10 ^ 10) found
    → RootInRounds (d k * 10 ^ 10) most_rounds_of_gases (tried_in found)
