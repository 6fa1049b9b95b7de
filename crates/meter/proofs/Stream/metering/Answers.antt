-- An accepted volume leaves a sound stream.
use native.Mathlib.Omega.{arith}
use Rattle.std.specs.Prelude.{Some}
use Rattle.meter.proofs.Kept.{sound_metered}
use Rattle.meter.proofs.Stream.metering.Goals as goal

pub invariant_of-self : goal.invariant_of-self
invariant_of-self c =
    let i = c.self.inside in
    rw c.added-self-inside.ensures
    (sound_metered (record { analysis = i.analysis; totals = i.totals }) c.args.volume (Some c.in_ok-gas.gas) c.in_ok-gas.ensures.ok_part c.self.invariant (omega arith))
