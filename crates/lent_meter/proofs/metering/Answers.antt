-- 13, or what the metering of the row gives.
use Rattle.meter.specs.State.{stream_at}
use Rattle.meter.specs.Conditions.{stream_metering_order}
use Rattle.meter.specs.Calls.{metered}
use Rattle.lent_meter.proofs.Outcomes.{row_is, lifted, lent_row}
use Rattle.lent_meter.proofs.metering.Goals as goal

pub metering_row-requires : goal.metering_row-requires
metering_row-requires c = lent_row c.args.stream c.requires c.in_ok-check_stream.ensures.within

pub returns-clause-on_words : goal.returns-clause-on_words
returns-clause-on_words c m sound holds =
    let a = c.args in
    let low = c.in_ok-check_stream.ensures.within in
    let s = stream_at m a.stream in
    lifted m sound holds a.stream low (metered s a.volume) (stream_metering_order a.volume s)
    (c.metering_row.ensures.on_row s (sound.each a.stream low) (row_is m sound holds a.stream low))
