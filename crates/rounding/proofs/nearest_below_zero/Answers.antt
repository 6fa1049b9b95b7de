-- The quotient, or one more, is the size of `near_z`, by the laws on its rest.
use native.Mathlib.Omega.{arith}
use Rattle.rounding.proofs.Quotient.{stays_below, goes_down}
use Rattle.rounding.proofs.nearest_below_zero.Goals as goal

pub returns-then-q-rest : goal.returns-then-q-rest
returns-then-q-rest c = goes_down _ _ c.requires (omega arith)

pub returns-else-q-rest : goal.returns-else-q-rest
returns-else-q-rest c = stays_below _ _ c.requires (omega arith)
