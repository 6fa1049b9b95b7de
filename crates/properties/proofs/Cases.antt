-- The cases hold of the definitions, by computation.
use mathlib.Core.Path.{◌≡◌, refl}
use mathlib.Core.Bool.{true}
use mathlib.Core.Logic.{⊎_elim}
use Prim.Native.Nat.{ℕ, ◌*◌, ◌-◌, ◌≤◌}
use native.Mathlib.Nat.{le_trans, mul-le-mul, mul-le-mul_right}
use native.Mathlib.Omega.{arith}
use lib.Dec.{le→leb}
use Rattle.std.proofs.lemmas.Bool.{cases_lt}
use Rattle.rounding.specs.Near.{near, near_z, floor}
use Rattle.rounding.specs.Root.{root, root_from}
use Rattle.components.specs.Table.{component_table}
use Rattle.components.specs.Composition.{in_class, total, fraction_for, over_lines}
use Rattle.records.specs.Order.{accepted}
use Rattle.records.specs.Format.{lines_of, fractions_of, entries_bytes, bytes_of}
use Rattle.records.specs.Conditions.{line_breaks, fraction_zero, any_above}
use Rattle.records.specs.Calls.{reading_of}
use Rattle.records.specs.Cases.{same_outcome, up_from}
use Rattle.properties.specs.Chain.{T, D, HmSuperior, HmInferior, M, S, S9, Z, Hs, Hi, rho, A, G, d, r, W}
use Rattle.properties.specs.Unrounded as unrounded
use Rattle.properties.specs.Quantities.{BoundsBelow}
use Rattle.properties.specs.Distances.{Indexed}
use Rattle.properties.specs.PerKilogram.{NoSmallerDistance}
use Rattle.properties.specs.Cases.{K1, K2, GasesHold, BelowZero, far_index, AboveSeven, LimitsAnswered, PerKilogramGasesHold, half_gas}

pub bounds_below : BoundsBelow
bounds_below = refl

pub k1 : K1
unfolding near near_z floor root root_from component_table total fraction_for over_lines lines_of fractions_of entries_bytes line_breaks fraction_zero any_above T D HmSuperior HmInferior M S S9 Z Hs Hi rho A G d r W
k1 = refl

pub k2 : K2
unfolding near near_z floor component_table total fraction_for over_lines lines_of fractions_of line_breaks fraction_zero any_above T D HmSuperior S S9 Z Hs
k2 = refl

pub gases_hold : GasesHold
unfolding near near_z floor root root_from component_table total fraction_for over_lines lines_of fractions_of entries_bytes line_breaks fraction_zero any_above same_outcome up_from T D HmSuperior HmInferior M S S9 Z Hs Hi rho A G d r W
gases_hold = refl

pub below_zero : BelowZero
unfolding near_z floor component_table fraction_for over_lines S S9
below_zero = record { half = (refl, refl); past = (refl, refl) }

far_reads : reading_of (bytes_of far_index) ≡ accepted far_index
unfolding total fraction_for lines_of fractions_of entries_bytes line_breaks fraction_zero any_above
far_reads = refl

far_in_class : in_class far_index.lines far_index.fractions ≡ true
unfolding fraction_for
far_in_class = refl

-- a distance may be taken larger
larger : (W t u p q n : ℕ) → t ≤ u → (W - t) * (W - t) * p * q ≤ n → (W - u) * (W - u) * p * q ≤ n
larger W t u p q n h w =
    let m : W - u ≤ W - t = omega (arith, h) in
    le_trans (mul-le-mul_right q (mul-le-mul_right p (mul-le-mul m m))) w

far : (t : ℕ) → t ≤ 7 → Indexed t (W far_index) (unrounded.Hs far_index) (unrounded.d far_index) → ⊥
unfolding near near_z floor root root_from component_table fraction_for over_lines T D HmSuperior M S S9 Z Hs A G d r W
far t h w = le→leb _ _ (larger (W far_index) t 7 (unrounded.d far_index).num ((unrounded.Hs far_index).den * (unrounded.Hs far_index).den) _ h w.under)

pub above_seven : AboveSeven
above_seven t every = ⊎_elim (λ l. l) (λ l. absurd (far t l (every (bytes_of far_index) far_index far_reads far_in_class))) (cases_lt 7 t)

pub limits_answered : LimitsAnswered
unfolding total fraction_for lines_of fractions_of entries_bytes line_breaks fraction_zero any_above same_outcome up_from
limits_answered = refl

pub per_kilogram_gases_hold : PerKilogramGasesHold
unfolding near component_table total fraction_for over_lines lines_of fractions_of entries_bytes line_breaks fraction_zero any_above same_outcome up_from HmSuperior HmInferior M
per_kilogram_gases_hold = refl

half_reads : reading_of (bytes_of (half_gas 15 15)) ≡ accepted (half_gas 15 15)
unfolding total fraction_for lines_of fractions_of entries_bytes line_breaks fraction_zero any_above
half_reads = refl

pub no_smaller_distance : NoSmallerDistance
unfolding near component_table over_lines fraction_for HmSuperior M
no_smaller_distance t every = let w = every (bytes_of (half_gas 15 15)) (half_gas 15 15) half_reads in omega (arith, w.below)
