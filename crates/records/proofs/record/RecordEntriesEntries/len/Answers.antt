use mathlib.Core.Path.{sym, ◌∙◌}
use Rattle.records.specs.Counted.{count_lines}
use Rattle.records.proofs.record.RecordEntriesEntries.len.Goals as goal

pub returns : goal.returns
returns c = c.count.ensures.0 ∙ sym (count_lines c.args.self.now.bytes.now)
