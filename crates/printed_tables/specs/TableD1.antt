-- The calculated figures of table D.1, by their number k: six to a line.
use Rattle.std.specs.Prelude.{ℕ, ◌*◌, ◌/◌, ◌%◌, ◌^◌, cond, List, [], ◌∷◌, ◌==◌, nat_lt, slice_index}
use Rattle.rounding.specs.Near.{near}
use Rattle.components.specs.Table.{molar_mass, summation, superior}
use Rattle.printed_tables.specs.Figures.{number_of}
use Rattle.printed_tables.specs.Gas.{line_at, fraction_at}

-- M, H, s, x M, x H and x s: columns of the component table, scales, and how many of the unit make 1
abbrev pub row_columns : List ℕ
row_columns = molar_mass ∷ superior 2 ∷ summation 1 ∷ molar_mass ∷ superior 2 ∷ summation 1 ∷ []

abbrev pub row_scales : List ℕ
row_scales = 10 ^ 3 ∷ 10 ^ 2 ∷ 10 ^ 4 ∷ 10 ^ 4 ∷ 10 ^ 2 ∷ 10 ^ 5 ∷ []

abbrev pub row_units : List ℕ
row_units = 10 ^ 4 ∷ 10 ^ 3 ∷ 10 ^ 4 ∷ 10 ^ 10 ∷ 10 ^ 9 ∷ 10 ^ 10 ∷ []

-- molar masses have three decimals, and nitrogen's four
abbrev pub row_scale : ℕ → ℕ
row_scale k = cond (k == 36) (10 ^ 4) (slice_index row_scales (k % 6))

-- the first three figures of a line are its numbers, the others are multiplied by its fraction
abbrev pub row_weight : ℕ → ℕ
row_weight k = cond (nat_lt (k % 6) 3) 1 (fraction_at (k / 6))

abbrev pub row_figure : ℕ → ℕ
row_figure k = near (row_weight k * number_of (line_at (k / 6)) (slice_index row_columns (k % 6)) * row_scale k) (slice_index row_units (k % 6))
