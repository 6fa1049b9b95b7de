-- Each call of the loop leaves the meter after one analysis more.
use Rattle.std.proofs.Common.{add-one}
use Rattle.time_meter.specs.Calls.{analysed_to}
use Rattle.time_meter.proofs.analyse.Goals as goal

pub loop-stream-preserved : goal.loop-stream-preserved
unfolding analysed_to
loop-stream-preserved c = rw (add-one, ← c.loop-stream.invariant) (rw c.methane.ensures at c.analysis.ensures.stands)
