-- After i turns the meter is that after i calls.
use Rattle.std.proofs.Common.{◌≡◌}
use Rattle.try_meter.specs.Calls.{filled_by}
use Rattle.try_meter.proofs.fill.Given as goal

abbrev pub invariant-loop-i : goal.invariant-loop-i
invariant-loop-i l = l.meter ≡ filled_by l.i l.initial.meter l.stream
