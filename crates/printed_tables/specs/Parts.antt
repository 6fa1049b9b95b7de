-- The parts of the source whose figures are compared: how many figures, and the k-th as calculated, line after line. That of table D.1 is
-- row_figure, and that of the text text_figure.
use Rattle.std.specs.Prelude.{ℕ, ◌+◌, ◌*◌, ◌/◌, ◌%◌}
use Rattle.printed_tables.specs.Figures.{figure_per_kilogram, figure_per_cubic_metre}

-- tables 4 and 5 have the lines 1 to 48, with superior and inferior at four temperatures and at six pairs; table D.1 has eight lines
abbrev pub table_4_figures : ℕ
table_4_figures = 48 * 8

abbrev pub table_5_figures : ℕ
table_5_figures = 48 * 12

abbrev pub table_d1_figures : ℕ
table_d1_figures = 8 * 6

abbrev pub text_figures : ℕ
text_figures = 29

abbrev pub table_4_figure : ℕ → ℕ
table_4_figure k = figure_per_kilogram (k / 8 + 1) (k % 8)

abbrev pub table_5_figure : ℕ → ℕ
table_5_figure k = figure_per_cubic_metre (k / 12 + 1) (k % 12)
