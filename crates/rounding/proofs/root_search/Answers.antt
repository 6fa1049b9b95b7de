-- The loop keeps that a search is under way; its measure is the candidate, which falls.
use mathlib.Core.Path.{sym, ◌∙◌}
use native.Mathlib.Omega.{arith}
use Rattle.rounding.proofs.Newton.{falls}
use Rattle.rounding.proofs.Search.{when_none, when_some}
use Rattle.rounding.proofs.Underway.{begun, ends, again}
use Rattle.rounding.proofs.root_search.Goals as goal

pub loop-next-init : goal.loop-next-init
loop-next-init c = begun _ _ (omega arith) c.first_candidate-c.ensures

pub returns-in_default : goal.returns-in_default
returns-in_default c = rw c.from.ensures (ends (omega arith) c.loop-next.invariant (when_none _ _ (sym c.try_candidate.ensures ∙ c.in_default.is)))

pub loop-next-smaller : goal.loop-next-smaller
loop-next-smaller c =
    let round = when_some _ _ _ (sym c.try_candidate.ensures ∙ c.in-Some.is) in
    omega (arith, round.1, falls _ _ round.0)

pub loop-next-preserved : goal.loop-next-preserved
loop-next-preserved c =
    let round = when_some _ _ _ (sym c.try_candidate.ensures ∙ c.in-Some.is) in
    rw (← round.1) (again (omega arith) c.loop-next.invariant round.0)
