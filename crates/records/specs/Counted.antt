-- A record has as many line numbers, and as many fractions, as its entry count says, a byte.
use mathlib.Core.Path.{◌≡◌, refl, sym, ap, ◌∙◌}
use Rattle.std.specs.Prelude.{List, ℕ, zero, suc, ◌≤◌, length, drop}
use Rattle.records.specs.Format.{count_in, entries_in, lines_of, fractions_of, lines_in, fractions_in}

length_lines : (n : ℕ) (es : List ℕ) → length (lines_of n es) ≡ n
unfolding lines_of
length_lines zero es = refl
length_lines (suc n) es = ap suc (length_lines n (drop 5 es))

length_fractions : (n : ℕ) (es : List ℕ) → length (fractions_of n es) ≡ n
unfolding fractions_of
length_fractions zero es = refl
length_fractions (suc n) es = ap suc (length_fractions n (drop 5 es))

module _ (bs : List ℕ) where
  pub count_lines : length (lines_in bs) ≡ count_in bs
  count_lines = length_lines (count_in bs) (entries_in bs)

  pub count_fractions : length (fractions_in bs) ≡ count_in bs
  count_fractions = length_fractions (count_in bs) (entries_in bs)

  pub same_in : length (fractions_in bs) ≡ length (lines_in bs)
  same_in = count_fractions ∙ sym count_lines

  pub few_in : count_in bs ≤ 255 → length (lines_in bs) ≤ 255
  few_in h = rw count_lines h
