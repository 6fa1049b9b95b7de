-- 13, or what the analysis of the row gives.
use Rattle.meter.specs.State.{stream_at}
use Rattle.meter.specs.Conditions.{stream_analysis_order}
use Rattle.meter.specs.Calls.{analysed}
use Rattle.lent_meter.proofs.Outcomes.{row_is, lifted}
use Rattle.lent_meter.proofs.analysis.Goals as goal

pub returns-clause-on_words : goal.returns-clause-on_words
returns-clause-on_words c m sound holds =
    let a = c.args in
    let low = c.in_ok-check_stream.ensures.within in
    let s = stream_at m a.stream in
    lifted m sound holds a.stream low (analysed s a.bytes.now) (stream_analysis_order a.bytes.now s)
    (c.analysis_row.ensures.on_row s (sound.each a.stream low) (row_is m sound holds a.stream low))
