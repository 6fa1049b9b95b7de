-- The named stream takes the day.
use Prim.Native.Nat.{◌<◌}
use native.Mathlib.Omega.{arith}
use lib.ListN.{length}
use Rattle.std.proofs.lemmas.List.{get_or_default}
use Rattle.meter.specs.State.{fresh_stream}
use Rattle.meter.proofs.DayOnMeter.{day_gives}
use Rattle.meter.proofs.Meter.day.Goals as goal

pub returns : goal.returns
returns c =
    let m = c.args.self.now in
    let k = c.args.stream in
    let e = c.in_ok-day.ensures in
    let within : k < length m.streams = omega arith in
    day_gives m k e.within within c.args.file.now c.args.volumes.now e.number
    (rw (get_or_default m.streams k _ fresh_stream within, e.same) at c.day.ensures)
