-- Bounds that compute, and bounds of a line's numbers.
use Rattle.std.proofs.Common.{ℕ, ◌-◌, ◌<◌, ◌≤◌, T, leb, [], get_or, pos, nat_abs, arith, leb→le}
use Rattle.components.specs.Table.{component_table, molar_mass}
use Rattle.components.proofs.Every.{every, at}
use Rattle.printed_tables.specs.Figures.{number_of}

module _ (f : ℕ → ℕ) (bound n : ℕ) where
  pub at_most : T (every (λ (k : ℕ). leb (f k) bound) n) → (k : ℕ) → k < n → f k ≤ bound
  at_most t k h = leb→le _ _ (at (λ (k : ℕ). leb (f k) bound) n t k h)

  pub at_least : T (every (λ (k : ℕ). leb bound (f k)) n) → (k : ℕ) → k < n → bound ≤ f k
  at_least t k h = leb→le _ _ (at (λ (k : ℕ). leb bound (f k)) n t k h)

-- the least molar mass, hydrogen's
pub mass_above : (l : ℕ) → 1 ≤ l → l ≤ 55 → 20159 ≤ number_of l molar_mass
unfolding component_table
mass_above l lo hi = at_least (λ (k : ℕ). nat_abs (get_or (get_or component_table k []) molar_mass (pos 0))) 20159 55 tt (l - 1) (omega arith)
