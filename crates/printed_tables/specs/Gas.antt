-- The gas of annex D at 15/15: its sums, and formulas (7) and (9) of source document 002.
use Rattle.std.specs.Prelude.{ℕ, zero, suc, ◌+◌, ◌*◌, ◌^◌, slice_index, unsigned_abs}
use Rattle.rounding.specs.Near.{near}
use Rattle.components.specs.Table.{molar_mass, superior}
use Rattle.components.specs.Composition.{total}
use Rattle.records.specs.Format.{Contents}
use Rattle.records.specs.Cases.{annex_d}
use Rattle.properties.specs.Chain.{HmSuperior, M, S, D, ideal_calorific}
use Rattle.printed_tables.specs.declared.gas.Totals.{Totals}
use Rattle.printed_tables.specs.Figures.{number_of}

abbrev pub gas : Contents
gas = annex_d 15 15

-- the k-th line and its fraction, counted from 0
abbrev pub line_at : ℕ → ℕ
line_at k = slice_index gas.lines k

abbrev pub fraction_at : ℕ → ℕ
fraction_at k = slice_index gas.fractions k

-- formula (7): a line's mass fraction, unit 10^-7, times its calorific value, unit 10^-5 MJ/kg
unfoldable pub mass_part : ℕ → ℕ
mass_part k =
    near (fraction_at k * number_of (line_at k) molar_mass * 10 ^ 7) (M gas)
    * near (10 ^ 6 * number_of (line_at k) (superior 2)) (number_of (line_at k) molar_mass)

-- formula (9): a line's fraction, ppm, times its calorific value, J/m³
unfoldable pub volume_part : ℕ → ℕ
volume_part k = fraction_at k * ideal_calorific (10 ^ 6 * number_of (line_at k) (superior 2)) (D gas)

-- the sum of the first n
unfoldable pub sum_to : ℕ → (ℕ → ℕ) → ℕ
sum_to zero f = 0
sum_to (suc n) f = sum_to n f + f n

-- the sums of x H, x M, x s and x, and formulas (7) and (9)
abbrev pub gas_totals : Totals
gas_totals =
    record {
      h = HmSuperior gas;
      m = M gas;
      s = unsigned_abs (S gas);
      x = total gas.fractions;
      mass = sum_to 8 mass_part;
      volume = sum_to 8 volume_part;
    }
