-- The stream of the row takes the day.
use Rattle.meter.specs.State.{stream_at}
use Rattle.lent_meter.proofs.Outcomes.{row_is, lent_row, day_lifted}
use Rattle.lent_meter.proofs.day.Goals as goal

pub day_row-requires : goal.day_row-requires
day_row-requires c = lent_row c.args.stream c.requires c.in_ok-day.ensures.within

pub returns-clause-on_words : goal.returns-clause-on_words
returns-clause-on_words c m sound holds =
    let k = c.args.stream in
    let e = c.in_ok-day.ensures in
    day_lifted m sound holds k e.within c.args.file.now c.args.volumes.now e.number
    (rw e.same at (c.day_row.ensures (stream_at m k) (sound.each k e.within) (row_is m sound holds k e.within)))
