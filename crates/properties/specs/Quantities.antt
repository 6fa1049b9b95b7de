-- The six properties and the calorific value per kilogram as quantities: how many of a quantity's unit make 1 of the standard's (1 for Z
-- and d, 1 MJ/m³, 1 kg/m³, 1 MJ/kg), and its ceiling. Each list is in the order Z, Hs, Hi, rho, d, W, value per kilogram.
use Rattle.std.specs.Prelude.{◌≡◌, true, List, [], ◌∷◌, ℕ, ◌^◌, ◌≤◌, ltb}
use Rattle.components.specs.Tests.{all}
use Rattle.properties.specs.Chain.{Six}

abbrev pub scales : List ℕ
scales = 10 ^ 9 ∷ 10 ^ 6 ∷ 10 ^ 6 ∷ 10 ^ 8 ∷ 10 ^ 8 ∷ 10 ^ 6 ∷ 10 ^ 5 ∷ []

-- the ceilings, which document 01 leaves to the program; docs/DECISIONS.md says how they were chosen
abbrev pub compression_bound : ℕ
compression_bound = 1000000000

abbrev pub calorific_bound : ℕ
calorific_bound = 250000000

abbrev pub density_bound : ℕ
density_bound = 510000000

abbrev pub relative_bound : ℕ
relative_bound = 390000000

abbrev pub wobbe_bound : ℕ
wobbe_bound = 470000000

abbrev pub mass_calorific_bound : ℕ
mass_calorific_bound = 15000000

abbrev pub bounds : List ℕ
bounds = compression_bound ∷ calorific_bound ∷ calorific_bound ∷ density_bound ∷ relative_bound ∷ wobbe_bound ∷ mass_calorific_bound ∷ []

-- each ceiling is below 2^53
abbrev pub BoundsBelow : Type 0
BoundsBelow = all (λ (b : ℕ). ltb b (2 ^ 53)) bounds ≡ true

-- no property passes its ceiling
pub record Bounded (p : Six) : Type 0 where
  pub Z : p.Z ≤ compression_bound
  pub Hs : p.Hs ≤ calorific_bound
  pub Hi : p.Hi ≤ calorific_bound
  pub rho : p.rho ≤ density_bound
  pub d : p.d ≤ relative_bound
  pub W : p.W ≤ wobbe_bound
