-- The cases hold, by computation.
use mathlib.Core.Path.{refl}
use Rattle.rounding.specs.Near.{near, near_z, floor}
use Rattle.rounding.specs.Root.{root, root_from}
use Rattle.components.specs.Table.{component_table}
use Rattle.components.specs.Rule.{hydrogen_atoms, allowance}
use Rattle.components.specs.Composition.{total, fraction_for, over_lines}
use Rattle.records.specs.Format.{lines_of, fractions_of, entries_bytes}
use Rattle.records.specs.Conditions.{line_breaks, fraction_zero, any_above}
use Rattle.day_file.specs.Format.{split}
use Rattle.records.specs.Cases.{same_list, same_outcome, up_from}
use Rattle.properties.specs.Chain.{T, D, HmSuperior, HmInferior, M, S, S9, Z, Hs, Hi, rho, A, G, d, r, W}
use Rattle.tally.specs.Cases.{CasesHold, SharedHolds}

pub cases_hold : CasesHold
unfolding split near near_z floor root root_from component_table hydrogen_atoms allowance total fraction_for over_lines lines_of fractions_of entries_bytes line_breaks fraction_zero any_above same_list same_outcome up_from T D HmSuperior HmInferior M S S9 Z Hs Hi rho A G d r W
cases_hold = refl

pub shared_holds : SharedHolds
shared_holds = record { calls = refl; answers = refl; above = refl; others = refl }
