-- 13, or what the named stream gives.
use native.Mathlib.Omega.{arith}
use Rattle.meter.specs.Conditions.{stream_metering_order}
use Rattle.meter.specs.Calls.{metered}
use Rattle.meter.proofs.Outcomes.{on_index}
use Rattle.meter.proofs.Meter.metering.Goals as goal

pub returns : goal.returns
returns c =
    let v = c.args.volume in
    let named = c.in_ok-check_stream.ensures.within in
    on_index c.args.self.now _ (stream_metering_order v) (λ s. metered s v) named (omega (arith, named)) (omega (arith, named)) c.metering.ensures
