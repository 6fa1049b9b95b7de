-- The calculated figures of annex D after the rows of table D.1, six to a row: the last row of table D.1, and D.1 to D.4.3.
use Rattle.std.specs.Prelude.{ℕ, ◌/◌, ◌%◌, ◌^◌, List, [], ◌∷◌, slice_index, slice_index_or}
use Rattle.rounding.specs.Near.{near}
use Rattle.properties.specs.Chain.{D, Six, ideal_calorific, ideal_density, ideal_relative, root_of, wobbe}
use Rattle.properties.specs.PerKilogram.{per_kilogram}
use Rattle.printed_tables.specs.Gas.{gas, gas_totals}

-- the ideal values: H per kilogram, unit 10 J/kg, and per cubic metre, relative density, with 1 for the compression factor of air, density
-- and W
unfoldable pub ideal_hm : ℕ
ideal_hm = per_kilogram gas_totals.h gas_totals.m

unfoldable pub ideal_h : ℕ
ideal_h = ideal_calorific gas_totals.h (D gas)

unfoldable pub ideal_d : ℕ
ideal_d = ideal_relative gas_totals.m 100000

unfoldable pub ideal_rho : ℕ
ideal_rho = ideal_density gas_totals.m (D gas)

unfoldable pub ideal_w : ℕ
ideal_w = wobbe ideal_h (root_of ideal_d)

-- the values, with the six properties of the gas
abbrev pub text_values : Six → List (List ℕ)
text_values p =
    (gas_totals.x ∷ gas_totals.m ∷ gas_totals.h ∷ gas_totals.s ∷ gas_totals.h ∷ ideal_hm ∷ [])
    ∷ (ideal_hm ∷ gas_totals.mass ∷ ideal_h ∷ ideal_h ∷ gas_totals.volume ∷ gas_totals.s ∷ [])
    ∷ (p.Z ∷ p.Z ∷ p.Hs ∷ p.Hs ∷ ideal_d ∷ ideal_d ∷ [])
    ∷ (p.d ∷ p.d ∷ ideal_rho ∷ ideal_rho ∷ p.rho ∷ p.rho ∷ [])
    ∷ (ideal_w ∷ ideal_w ∷ p.W ∷ p.W ∷ p.W ∷ 0 ∷ [])
    ∷ []

-- how many of a value's unit make one in the last printed digit
abbrev pub text_steps : List ℕ
text_steps =
    10 ^ 2 ∷ 10 ^ 7 ∷ 10 ^ 7 ∷ 10 ^ 5 ∷ 10 ^ 7 ∷ 10 ^ 2 ∷ 10 ^ 3 ∷ 10 ^ 10
    ∷ 10 ^ 3 ∷ 10 ^ 4 ∷ 10 ^ 10 ∷ 10 ^ 5 ∷ 10 ^ 4 ∷ 10 ^ 5 ∷ 10 ^ 3 ∷ 10 ^ 4
    ∷ 10 ^ 3 ∷ 10 ^ 4 ∷ 10 ^ 3 ∷ 10 ^ 4 ∷ 10 ^ 3 ∷ 10 ^ 4 ∷ 10 ^ 3 ∷ 10 ^ 4 ∷ 10 ^ 3 ∷ 10 ^ 4 ∷ 10 ^ 3 ∷ 10 ^ 4 ∷ 10 ^ 4
    ∷ []

-- the k-th figure, from values that stand six to a row
abbrev pub text_figure : List (List ℕ) → ℕ → ℕ
text_figure values k = near (slice_index (slice_index_or values (k / 6) []) (k % 6)) (slice_index text_steps k)
