use Rattle.components.specs.Temperatures.{heat_place, summation_place}
use Rattle.components.proofs.Summing.{Four}
use Rattle.records.specs.Format.{lines_in, fractions_in}
use Rattle.properties.proofs.sums.sums_of.Given as goal

abbrev pub invariant-loop-i : goal.invariant-loop-i
invariant-loop-i l =
    Four (heat_place l.combustion) (summation_place l.metering) (lines_in l.accepted.bytes.now) (fractions_in l.accepted.bytes.now) l.sums.superior l.sums.inferior l.sums.mass l.sums.summation l.i
