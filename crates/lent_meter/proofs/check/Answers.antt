-- Each of the 16 rows.
use native.Mathlib.Omega.{arith}
use Rattle.lent_meter.proofs.Holding.{words_hold}
use Rattle.lent_meter.proofs.check.Goals as goal

pub returns : goal.returns
returns c = words_hold c.args.words.now (omega arith) c.each_holds.ensures
