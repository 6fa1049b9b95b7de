-- The words after the day, and its counts.
use Rattle.meter.specs.Days.{day_of}
use Rattle.loonstool.proofs.Days.{day_returned}
use Rattle.loonstool.proofs.loonstool_meter_day.Goals as goal

pub returns-clause-on_words : goal.returns-clause-on_words
returns-clause-on_words c m sound holds =
    day_returned (day_of m c.args.stream c.args.file.now c.args.volumes.now) c.day.result c.map.result (c.day.ensures.on_words m sound holds) c.map.ensures.cases c.give.ensures
