-- Bounds of the numbers of each step. Those of an accepted record, `..Low` and `..High`, follow from the bounds of its sums
-- (components/specs/Bounds.antt); `..Bound` in Quantities.antt is a ceiling.
use Rattle.std.specs.Prelude.{◌≡◌, ℕ, ◌*◌, ◌^◌, ◌≤◌}
use Rattle.rounding.specs.Near.{near}
use Rattle.rounding.specs.Fraction.{Within, whole}
use Rattle.properties.specs.Chain.{temperature, divisor, air_factor, Six, wobbe, root_of}
use Rattle.properties.specs.Quantities.{Bounded}

-- Hm and M that a step takes, of any gas, so that its products fit 64 bits
abbrev pub any_heat : ℕ
any_heat = 10000000000000

abbrev pub any_mass : ℕ
any_mass = 1500000000000

-- D, at 0 and at 20 °C, and A, unit 10^-5
abbrev pub divisor_low : ℕ
divisor_low = 831451 * 27315

abbrev pub divisor_high : ℕ
divisor_high = 831451 * 29315

abbrev pub air_low : ℕ
air_low = 99900

abbrev pub air_high : ℕ
air_high = 100000

-- 2. Z, unit 10^-9
abbrev pub compression_low : ℕ
compression_low = 724000000

-- 3. The ideal calorific value, and Hs and Hi, unit J/m³; the lower bound is of all three
abbrev pub calorific_low : ℕ
calorific_low = 9030000

abbrev pub ideal_calorific_high : ℕ
ideal_calorific_high = 175000000

abbrev pub calorific_high : ℕ
calorific_high = 242000000

-- 4. The ideal density, and rho, unit 10^-8 kg/m³
abbrev pub density_low : ℕ
density_low = 7540000

-- 5. G and d, unit 10^-8; the lower bound is of both
abbrev pub relative_low : ℕ
relative_low = 6250000

abbrev pub ideal_relative_high : ℕ
ideal_relative_high = 277000000

-- an ideal value of any property, unit of the property
abbrev pub ideal_high : ℕ
ideal_high = 365000000

-- 6. r, and W, unit J/m³
abbrev pub root_low : ℕ
root_low = 250000000

abbrev pub root_high : ℕ
root_high = 1975000000

abbrev pub wobbe_low : ℕ
wobbe_low = 3880000

-- no property is below its lower bound, in the hydrogen class or outside it
pub record Floored (p : Six) : Type 0 where
  pub Z : compression_low ≤ p.Z
  pub Hs : calorific_low ≤ p.Hs
  pub Hi : calorific_low ≤ p.Hi
  pub rho : density_low ≤ p.rho
  pub d : relative_low ≤ p.d
  pub W : wobbe_low ≤ p.W

-- what holds of the properties of every accepted record: each lies between its floor and its ceiling, Hi is not above Hs, and W is the
-- index of Hs and d
pub record Proper (p : Six) : Type 0 where
  pub floored : Floored p
  pub bounded : Bounded p
  pub order : p.Hi ≤ p.Hs
  pub index : p.W ≡ wobbe p.Hs (root_of p.d)

-- the density of air at a metering temperature, by the numbers of steps 4 and 5, unit 10^-9 kg/m³, and what it is at most
abbrev pub air_density : ℕ → ℕ
air_density m = near (10132500 * 289626000 * 10 ^ 9) (divisor (temperature m) * air_factor m)

abbrev pub air_density_high : ℕ
air_density_high = 1300000000

-- d times the density of air, unit 10^-8 kg/m³
abbrev pub by_air : ℕ → ℕ → ℕ
by_air m d = near (d * air_density m) (10 ^ 9)

-- the most that rho differs from it, since both rho and d are rounded
abbrev pub air_distance : ℕ
air_distance = 5

-- what holds too of every accepted record, at the metering temperature m: rho is d times the density of air
abbrev pub DensityByAir : ℕ → Six → Type 0
DensityByAir m p = Within (whole air_distance) p.rho (whole (by_air m p.d))
