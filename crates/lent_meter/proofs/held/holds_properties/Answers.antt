-- The ranges, and then the order and the index.
use mathlib.Core.Path.{sym, ◌∙◌}
use Rattle.lent_meter.specs.Words.{six_in}
use Rattle.lent_meter.proofs.Tests.{properties_hold}
use Rattle.lent_meter.proofs.held.holds_properties.Goals as goal

pub returns : goal.returns
returns c = rw c.index.ensures (properties_hold (six_in c.args.row.now) (sym c.within_ranges.ensures ∙ c.if-not-within_ranges.false))
