-- A stream as contracts see it.
use Rattle.std.specs.Prelude.{Option}
use Rattle.meter.specs.declared.Gas.{Gas}
use Rattle.meter.specs.declared.StreamTotals.{StreamTotals}

pub record StreamState : Type 0 where
  pub analysis : Option Gas
  pub totals : StreamTotals
