-- The gas of annex D: its composition, its sums, and bounds of its parts and figures, each computed.
use Rattle.std.proofs.Common.{◌≡◌, ℕ, zero, suc, ◌+◌, ◌*◌, ◌/◌, ◌%◌, ◌<◌, ◌≤◌, get_or, nat_abs, refl, arith, w64, Fits}
use Rattle.rounding.specs.Near.{near}
use Rattle.components.specs.Table.{component_table, molar_mass}
use Rattle.components.specs.Composition.{Composition, total, over_lines, fraction_for}
use Rattle.properties.specs.Chain.{HmSuperior, M, S, D, T}
use Rattle.printed_tables.specs.Figures.{number_of}
use Rattle.printed_tables.specs.Gas.{gas, line_at, fraction_at, mass_part, volume_part, sum_to}
use Rattle.printed_tables.specs.TableD1.{row_columns, row_weight, row_scale}
use Rattle.printed_tables.specs.Text.{ideal_h, ideal_d}
use Rattle.printed_tables.proofs.NumberLaws.{at_most, at_least}

pub line_in : (k : ℕ) → k < 8 → (1 ≤ line_at k) × (line_at k ≤ 55)
line_in k h = (at_least line_at 1 8 tt k h, at_most line_at 55 8 tt k h)

pub fraction_high : (k : ℕ) → k < 8 → fraction_at k ≤ 1000000
fraction_high = at_most fraction_at 1000000 8 tt

pub composition : Composition gas.lines gas.fractions
unfolding total
composition = record { same = refl; lines = line_in; sum = omega arith }

-- the sums, and the ideal values that a quantity is made of
pub h_value : HmSuperior gas ≡ 919085816000
unfolding HmSuperior over_lines fraction_for component_table
h_value = refl

pub m_value : M gas ≡ 174778457500
unfolding M over_lines fraction_for component_table
m_value = refl

pub s_value : nat_abs (S gas) ≡ 478542000
unfolding S over_lines fraction_for component_table
s_value = refl

pub ideal_h_lem : ideal_h ≡ 38870255
unfolding ideal_h HmSuperior D T over_lines fraction_for component_table near
ideal_h_lem = refl

pub ideal_d_lem : ideal_d ≡ 60346259
unfolding ideal_d M over_lines fraction_for component_table near
ideal_d_lem = refl

-- a line's mass and its parts of the formulas: no part passes 10^14
pub mass_high_lem : (k : ℕ) → k < 8 → fraction_at k * number_of (line_at k) molar_mass ≤ 150000000000
unfolding component_table
mass_high_lem = at_most (λ (k : ℕ). fraction_at k * number_of (line_at k) molar_mass) 150000000000 8 tt

pub mass_part_high : (k : ℕ) → k < 8 → mass_part k ≤ 100000000000000
unfolding mass_part M over_lines fraction_for component_table near
mass_part_high = at_most mass_part 100000000000000 8 tt

pub volume_part_high : (k : ℕ) → k < 8 → volume_part k ≤ 100000000000000
unfolding volume_part D T component_table near
volume_part_high = at_most volume_part 100000000000000 8 tt

-- a sum of such parts with one part more fits 64 bits
module _ (f : ℕ → ℕ) (high : (k : ℕ) → k < 8 → f k ≤ 100000000000000) where
  sum_high : (n : ℕ) → n ≤ 8 → sum_to n f ≤ n * 100000000000000
  unfolding sum_to
  sum_high zero l = omega arith
  sum_high (suc n) l = omega (arith, sum_high n (omega arith), high n (omega arith))

  pub more_fits : (i : ℕ) {n r : ℕ} → i < 8 → n ≡ sum_to i f → r ≡ f i → Fits w64 (n + r)
  more_fits i h e g = record { fits = omega (arith, high i h, sum_high i (omega arith)) }

-- the products of table D.1
abbrev pub row_product : ℕ → ℕ
row_product k = row_weight k * number_of (line_at (k / 6)) (get_or row_columns (k % 6) 0)

pub product_high : (k : ℕ) → k < 48 → row_product k ≤ 1000000000000000000
unfolding component_table
product_high = at_most row_product 1000000000000000000 48 tt

pub scaled_high : (k : ℕ) → k < 48 → row_product k * row_scale k ≤ 1000000000000000000
unfolding component_table
scaled_high = at_most (λ (k : ℕ). row_product k * row_scale k) 1000000000000000000 48 tt
