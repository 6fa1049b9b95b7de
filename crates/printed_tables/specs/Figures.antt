-- The calculated figures of tables 4 and 5. A figure stands as its digits without the decimal sign, beside its scale: 1000 for three
-- decimals.
use Rattle.std.specs.Prelude.{ℕ, ◌+◌, ◌*◌, ◌/◌, ◌%◌, ◌^◌, cond, ◌&&◌, ◌||◌, List, [], ◌∷◌, ◌==◌, slice_index, unsigned_abs}
use Rattle.rounding.specs.Near.{near}
use Rattle.components.specs.Table.{entry_of, molar_mass, superior}
use Rattle.properties.specs.Chain.{combustion_place, divisor, temperature, ideal_calorific}
use Rattle.properties.specs.PerKilogram.{per_kilogram}

-- a number of the component table, without its sign
abbrev pub number_of : ℕ → ℕ → ℕ
number_of l c = unsigned_abs (entry_of l c)

-- three decimals for methane and, in table 5, hydrogen; two for the other lines
abbrev pub scale_of : ℕ → ℕ → ℕ
scale_of table l = cond (l == 1 || (table == 5 && l == 41)) 1000 100

-- table 4, MJ/kg: the value per kilogram of a line at 1,000,000 ppm, in columns of h at 25, 20, 15 and 0 °C
abbrev pub figure_per_kilogram : ℕ → ℕ → ℕ
figure_per_kilogram l c = near (per_kilogram (10 ^ 6 * number_of l (superior 0 + c)) (10 ^ 6 * number_of l molar_mass) * scale_of 4 l) (10 ^ 5)

-- the columns of superior h and the metering temperatures at 15/15, 0/0, 15/0, 25/0, 20/20 and 25/20
abbrev superior_at : ℕ → ℕ
superior_at combustion = superior (combustion_place combustion)

abbrev pub superiors : List ℕ
superiors = superior_at 15 ∷ superior_at 0 ∷ superior_at 15 ∷ superior_at 25 ∷ superior_at 20 ∷ superior_at 25 ∷ []

abbrev pub meterings : List ℕ
meterings = 15 ∷ 0 ∷ 0 ∷ 0 ∷ 20 ∷ 20 ∷ []

-- table 5, MJ/m³: the ideal calorific value of a line at 1,000,000 ppm
abbrev pub figure_per_cubic_metre : ℕ → ℕ → ℕ
figure_per_cubic_metre l c =
    near
    (ideal_calorific (10 ^ 6 * number_of l (slice_index superiors (c / 2) + c % 2)) (divisor (temperature (slice_index meterings (c / 2)))) * scale_of 5 l)
    (10 ^ 6)
