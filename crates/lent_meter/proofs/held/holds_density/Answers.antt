-- Both sums fit, and the two tests together are the distance.
use native.Mathlib.Omega.{arith}
use Rattle.properties.proofs.StepBounds.{by_air_high}
use Rattle.lent_meter.specs.Words.{six_in}
use Rattle.lent_meter.proofs.held.holds_density.Goals as goal

pub overflow_add-result : goal.overflow_add-result
overflow_add-result c =
    omega (arith, c.by_air-by_air.ensures, by_air_high c.args.metering (six_in c.args.row.now).d c.requires.d)
