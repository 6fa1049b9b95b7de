-- After as many turns as `stream` the meter is that after as many analyses.
use Rattle.std.proofs.Common.{◌≡◌}
use Rattle.time_meter.specs.Calls.{analysed_to}
use Rattle.time_meter.proofs.analyse.Given as goal

abbrev pub invariant-loop-stream : goal.invariant-loop-stream
invariant-loop-stream l = l.meter ≡ analysed_to l.stream l.initial.meter
