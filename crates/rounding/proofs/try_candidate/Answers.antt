-- Each return is one case of `round_of`; the next candidate fits, since it is below c.
use mathlib.Core.Path.{ap, ◌∙◌}
use native.Mathlib.Omega.{arith}
use Rattle.std.specs.Prelude.{Some}
use Rattle.rounding.proofs.Newton.{falls}
use Rattle.rounding.proofs.Search.{is_last, is_next}
use Rattle.rounding.proofs.try_candidate.Goals as goal

pub returns-then-candidate-n : goal.returns-then-candidate-n
returns-then-candidate-n c = rw (← c.from-candidate.ensures) (is_last _ _ (omega arith))

pub overflow_cast-result : goal.overflow_cast-result
overflow_cast-result c = omega (arith, c.next_candidate.ensures, falls c.args.n c.from-candidate.result (omega arith))

pub returns : goal.returns
returns c = rw (← c.from-candidate.ensures) (ap Some c.next_candidate.ensures ∙ is_next c.args.n c.from-candidate.result (omega arith))
