use Rattle.rounding.proofs.Underway.{Underway}
use Rattle.rounding.proofs.root_search.Given as goal

abbrev pub invariant-loop-next : goal.invariant-loop-next
invariant-loop-next l = Underway l.n l.tried l.c l.rounds

abbrev pub decreases-loop-next : goal.decreases-loop-next
decreases-loop-next l = l.c
