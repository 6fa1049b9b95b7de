-- The code is `next_candidate` word for word.
use mathlib.Core.Path.{refl}
use Rattle.rounding.specs.Search.{next_candidate}
use Rattle.rounding.proofs.next_candidate.Goals as goal

pub returns : goal.returns
unfolding next_candidate
returns c = refl
