-- Bounds of the sums of a composition with a large share of methane or of hydrogen, whatever its other lines are; and the order of Hm,
-- inferior and superior, and the most that Hm / M comes to, of any composition. Lower bounds are those with hydrogen, upper ones those with
-- methane.
use Rattle.std.specs.Prelude.{List, ℕ, ◌*◌, ◌≤◌, ◌<◌, nat_abs}
use Rattle.components.specs.Table.{molar_mass, summation, superior, inferior, Heat}
use Rattle.components.specs.Composition.{Composition, LargeShare, sum_of}

-- Hm, superior or inferior, unit 10^-9 kJ/mol
abbrev pub heat_low : ℕ
heat_low = 217400000000

abbrev pub heat_high : ℕ
heat_high = 3900000000000

-- M, unit 10^-10 kg/kmol
abbrev pub mass_low : ℕ
mass_low = 18140000000

abbrev pub mass_high : ℕ
mass_high = 800000000000

-- the most that Hm / M comes to, of any composition, unit 10 MJ/kg: hydrogen alone comes to some 14.2
abbrev pub heat_by_mass : ℕ
heat_by_mass = 15

-- S, unit 10^-10
abbrev pub summation_high : ℕ
summation_high = 5250000000

pub record Bounds (ls xs : List ℕ) : Type 0 where
  pub heat_low_lem : (c : ℕ) → Heat c → heat_low ≤ nat_abs (sum_of c ls xs)
  pub heat_high_lem : (c : ℕ) → Heat c → nat_abs (sum_of c ls xs) ≤ heat_high
  pub mass_low_lem : mass_low ≤ nat_abs (sum_of molar_mass ls xs)
  pub mass_high_lem : nat_abs (sum_of molar_mass ls xs) ≤ mass_high
  pub summation_high_lem : (k : ℕ) → k < 3 → nat_abs (sum_of (summation k) ls xs) ≤ summation_high

abbrev pub ShareBounds : Type 0
ShareBounds = (ls xs : List ℕ) → Composition ls xs → LargeShare ls xs → Bounds ls xs

-- Hm inferior is not above Hm superior at the same temperature, the t-th
abbrev pub InferiorBelow : Type 0
InferiorBelow = (t : ℕ) → t < 4 → (ls xs : List ℕ) → nat_abs (sum_of (inferior t) ls xs) ≤ nat_abs (sum_of (superior t) ls xs)

-- Hm, superior or inferior, is at most 15 × M
abbrev pub HeatByMass : Type 0
HeatByMass = (c : ℕ) → Heat c → (ls xs : List ℕ) → nat_abs (sum_of c ls xs) ≤ heat_by_mass * nat_abs (sum_of molar_mass ls xs)
