-- The cases hold by computation.
use mathlib.Core.Path.{refl}
use Rattle.components.specs.Composition.{total, fraction_for}
use Rattle.records.specs.Format.{lines_of, fractions_of, entries_bytes}
use Rattle.records.specs.Conditions.{line_breaks, fraction_zero, any_above}
use Rattle.records.specs.Cases.{same_list, same_outcome, up_from, CasesHold, FullGasHolds, PairsHold, LimitCasesHold, LimitsHold, FullClassGasHolds, ClassCasesHold, ClassLimitsHold, DamagedRefused, WritesRefused, BuffersHold}

pub cases_hold : CasesHold
unfolding same_list same_outcome lines_of fractions_of entries_bytes line_breaks fraction_zero any_above total fraction_for
cases_hold = refl

pub full_gas_holds : FullGasHolds
unfolding same_list same_outcome up_from lines_of fractions_of entries_bytes line_breaks fraction_zero any_above total fraction_for
full_gas_holds = refl

pub pairs_hold : PairsHold
unfolding same_list same_outcome lines_of fractions_of entries_bytes line_breaks fraction_zero any_above total fraction_for
pairs_hold = refl

pub limit_cases_hold : LimitCasesHold
unfolding same_list same_outcome up_from lines_of fractions_of entries_bytes line_breaks fraction_zero any_above total fraction_for
limit_cases_hold = refl

pub limits_hold : LimitsHold
unfolding same_list same_outcome up_from lines_of fractions_of entries_bytes line_breaks fraction_zero any_above total fraction_for
limits_hold = refl

pub full_class_gas_holds : FullClassGasHolds
unfolding same_list same_outcome up_from lines_of fractions_of entries_bytes line_breaks fraction_zero any_above total fraction_for
full_class_gas_holds = refl

pub class_cases_hold : ClassCasesHold
unfolding same_list same_outcome lines_of fractions_of entries_bytes line_breaks fraction_zero any_above total fraction_for
class_cases_hold = refl

pub class_limits_hold : ClassLimitsHold
unfolding same_list same_outcome up_from lines_of fractions_of entries_bytes line_breaks fraction_zero any_above total fraction_for
class_limits_hold = refl

pub damaged_refused : DamagedRefused
unfolding same_outcome up_from lines_of fractions_of entries_bytes line_breaks fraction_zero any_above total fraction_for
damaged_refused = refl

pub writes_refused : WritesRefused
unfolding same_outcome up_from lines_of fractions_of entries_bytes line_breaks fraction_zero any_above total fraction_for
writes_refused = refl

pub buffers_hold : BuffersHold
unfolding same_list same_outcome lines_of fractions_of entries_bytes line_breaks fraction_zero any_above total fraction_for
buffers_hold = refl
