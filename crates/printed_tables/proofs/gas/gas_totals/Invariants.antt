-- After i turns the sums are those of the first i parts.
use Rattle.std.proofs.Common.{◌≡◌}
use Rattle.printed_tables.specs.Gas.{fraction_at, mass_part, volume_part, sum_to}
use Rattle.printed_tables.proofs.gas.gas_totals.Given as goal

abbrev pub invariant-loop-i : goal.invariant-loop-i
invariant-loop-i l = (l.x ≡ sum_to l.i fraction_at) × (l.mass ≡ sum_to l.i mass_part) × (l.volume ≡ sum_to l.i volume_part)
