-- Each return is one case of `first_candidate`.
use mathlib.Core.Path.{◌∙◌}
use native.Mathlib.Omega.{arith}
use Rattle.std.proofs.lemmas.Bool.{lt-ltb, le-ltb}
use Rattle.rounding.specs.Search.{next_candidate, first_candidate}
use Rattle.rounding.proofs.first_candidate.Goals as goal

pub overflow_cast-result : goal.overflow_cast-result
unfolding next_candidate
overflow_cast-result c = omega (arith, c.next_candidate.ensures)

pub returns-then-n-lt-HYDROGEN_BELOW : goal.returns-then-n-lt-HYDROGEN_BELOW
unfolding first_candidate
returns-then-n-lt-HYDROGEN_BELOW c = c.next_candidate.ensures ∙ rw (lt-ltb _ _ c.if-n-lt-HYDROGEN_BELOW.true)

pub overflow_cast-result-then-n-lt-NATURAL_BELOW : goal.overflow_cast-result-then-n-lt-NATURAL_BELOW
unfolding next_candidate
overflow_cast-result-then-n-lt-NATURAL_BELOW c = omega (arith, c.next_candidate-then-n-lt-NATURAL_BELOW.ensures)

pub returns-then-n-lt-NATURAL_BELOW : goal.returns-then-n-lt-NATURAL_BELOW
unfolding first_candidate
returns-then-n-lt-NATURAL_BELOW c = c.next_candidate-then-n-lt-NATURAL_BELOW.ensures ∙ rw (le-ltb _ _ c.if-n-lt-HYDROGEN_BELOW.false, lt-ltb _ _ c.if-n-lt-NATURAL_BELOW.true)

pub returns : goal.returns
unfolding first_candidate
returns c = rw (le-ltb _ _ c.if-n-lt-HYDROGEN_BELOW.false, le-ltb _ _ c.if-n-lt-NATURAL_BELOW.false)
