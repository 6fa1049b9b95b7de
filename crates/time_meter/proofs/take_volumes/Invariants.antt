-- After i turns the meter is that after i calls.
use Rattle.std.proofs.Common.{◌≡◌}
use Rattle.time_meter.specs.Calls.{metered_to}
use Rattle.time_meter.proofs.take_volumes.Given as goal

abbrev pub invariant-loop-i : goal.invariant-loop-i
invariant-loop-i l = l.meter ≡ metered_to l.i l.initial.meter
