-- The d of an accepted record is between its floor and its ceiling, where six rounds are enough.
use native.Mathlib.Omega.{arith}
use Rattle.rounding.proofs.Search.{searches_of_gases, search_answers}
use Rattle.properties.specs.Rounds.{AcceptedRounds}
use Rattle.properties.proofs.Gas.{every_accepted_record}

pub accepted_rounds : AcceptedRounds
accepted_rounds bs k found e s =
    let p = (every_accepted_record bs k e).proper in
    rw (search_answers _ found s).1 (searches_of_gases _ (omega arith) (omega arith))
