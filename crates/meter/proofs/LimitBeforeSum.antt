-- The analysis call has a record's conditions between 13 and 14.
use mathlib.Core.Path.{refl}
use mathlib.Core.List.{◌∷◌}
use Rattle.records.specs.Format.{combustion_in, metering_in, lines_in, fractions_in}
use Rattle.records.specs.Conditions.{head_order}
use Rattle.records.proofs.LimitBeforeSum.{content_change, same_conditions}
use Rattle.meter.specs.State.{stream_at, with_stream}
use Rattle.meter.specs.Conditions.{stream_above, pair_differs, pair_order}
use Rattle.meter.specs.Calls.{analysed}
use Rattle.meter.specs.LimitBeforeSum.{FormerAnalysisNumbers, FormerAnalysisConditions, AnalysisChange}

pub former_analysis_numbers : FormerAnalysisNumbers
former_analysis_numbers k bs s = refl

pub former_analysis_conditions : FormerAnalysisConditions
former_analysis_conditions k bs s =
    same_conditions (lines_in bs) (fractions_in bs) ((13, stream_above k) ∷ head_order bs) (pair_order (pair_differs s.analysis (combustion_in bs) (metering_in bs)))

pub analysis_change : AnalysisChange
analysis_change m k bs =
    let s = stream_at m k in
    content_change (lines_in bs) (fractions_in bs) ((13, stream_above k) ∷ head_order bs) (pair_order (pair_differs s.analysis (combustion_in bs) (metering_in bs)))
    (with_stream m k (analysed s bs)) refl
