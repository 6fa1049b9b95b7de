-- The analysis call has a record's conditions between 13 and 14.
use mathlib.Core.Path.{ap, ◌∙◌}
use mathlib.Core.List.{[], ◌∷◌, ◌++◌}
use Rattle.records.specs.Order.{Order, first_of, decided}
use Rattle.records.specs.Format.{combustion_in, metering_in}
use Rattle.records.specs.HydrogenClass.{classless_record_order}
use Rattle.records.proofs.OrderLaws.{clear_first, clear_second, decided_accepted}
use Rattle.records.proofs.HydrogenClass.{same_record_order, outside_of_clear}
use Rattle.meter.specs.State.{stream_at, with_stream}
use Rattle.meter.specs.Conditions.{stream_above, pair_differs, pair_order}
use Rattle.meter.specs.Calls.{analysed}
use Rattle.meter.specs.ByOrder.{analysis_order_by}
use Rattle.meter.specs.HydrogenClass.{AnalysisStays, AcceptedAnalysisStays}

pub analysis_stays : AnalysisStays
analysis_stays m k bs e =
    let s = stream_at m k in
    ap (λ (o : Order). decided (first_of ((13, stream_above k) ∷ o ++ pair_order (pair_differs s.analysis (combustion_in bs) (metering_in bs)))) (with_stream m k (analysed s bs))) (same_record_order bs e)

pub accepted_analysis_stays : AcceptedAnalysisStays
accepted_analysis_stays m after k bs e =
    let s = stream_at m k in
    let d = decided_accepted (first_of (analysis_order_by classless_record_order k bs s)) (with_stream m k (analysed s bs)) after e in
    let above : Order = (13, stream_above k) ∷ [] in
    let pair = pair_order (pair_differs s.analysis (combustion_in bs) (metering_in bs)) in
    analysis_stays m k bs (outside_of_clear bs (clear_first (classless_record_order bs) pair tt (clear_second above (classless_record_order bs ++ pair) tt d.0))) ∙ e
