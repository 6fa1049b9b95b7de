-- The two digits of the volume, one after the other.
use mathlib.Core.Path.{◌∙◌}
use Rattle.lent_meter.proofs.Tests.{product_is}
use Rattle.lent_meter.proofs.held.Measure.product.Goals as goal

pub returns : goal.returns
returns c = c.booked.ensures ∙ product_is c.args.self.unit c.args.volume c.args.value c.args.self.register_unit
