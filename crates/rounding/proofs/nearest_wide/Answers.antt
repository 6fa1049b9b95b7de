-- The digits of the long division are those of `near`, and each step fits 64 bits.
use native.Mathlib.Omega.{arith}
use Rattle.rounding.proofs.Quotient.{digits, digits_fit}
use Rattle.rounding.proofs.nearest_wide.Goals as goal

pub overflow_mul-result : goal.overflow_mul-result
overflow_mul-result c = omega (arith, digits_fit c.requires)

pub overflow_add-result : goal.overflow_add-result
overflow_add-result c = omega (arith, digits_fit c.requires)

pub overflow_add-result-2 : goal.overflow_add-result-2
overflow_add-result-2 c = omega (arith, digits_fit c.requires, c.nearest.ensures)

pub returns : goal.returns
returns c = omega (arith, c.nearest.ensures, digits c.requires)
