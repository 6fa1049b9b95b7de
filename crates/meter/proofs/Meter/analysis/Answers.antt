-- 13, or what the named stream gives.
use native.Mathlib.Omega.{arith}
use Rattle.meter.specs.Conditions.{stream_analysis_order}
use Rattle.meter.specs.Calls.{analysed}
use Rattle.meter.proofs.Outcomes.{on_index}
use Rattle.meter.proofs.Meter.analysis.Goals as goal

pub returns : goal.returns
returns c =
    let bs = c.args.bytes.now in
    let named = c.in_ok-check_stream.ensures.within in
    on_index c.args.self.now _ (stream_analysis_order bs) (λ s. analysed s bs) named (omega (arith, named)) (omega (arith, named)) c.analysis.ensures
