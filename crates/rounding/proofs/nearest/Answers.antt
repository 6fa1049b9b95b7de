-- The quotient, or one more, is `near`, by the laws on its rest.
use native.Mathlib.Omega.{arith}
use Rattle.rounding.proofs.Quotient.{stays, goes_up}
use Rattle.rounding.proofs.nearest.Goals as goal

pub returns-then-rest-q : goal.returns-then-rest-q
returns-then-rest-q c = stays _ _ c.requires (omega arith)

pub returns-else-rest-q : goal.returns-else-rest-q
returns-else-rest-q c = goes_up _ _ c.requires (omega arith)
