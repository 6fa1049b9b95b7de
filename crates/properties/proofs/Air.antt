-- rho and d are one mass in two units: rho is d times the density of air.
use Prim.Native.Nat.{ℕ, ◌+◌, ◌*◌, ◌^◌, ◌≤◌}
use native.Mathlib.Nat.{mul-le-mul_right, le_of_mul-le-mul_right}
use native.Mathlib.Omega.{arith}
use Rattle.rounding.specs.Fraction.{Fraction, Within, ◌over◌, half, whole}
use Rattle.properties.specs.Unrounded.{real}
use Rattle.properties.specs.Quantities.{relative_bound}
use Rattle.properties.specs.Bounds.{air_density_high, air_distance}

-- u is within 2 of the real value of M × a / p, and v within 2 of that of M × b / q
pub by_mass : (M Z : Fraction) (a b p q u v : ℕ) → Within (whole 2) u (real ((M.num * a) over (M.den * p)) Z) →
    Within (whole 2) v (real ((M.num * b) over (M.den * q)) Z) → u * (p * b) ≤ (v + 2) * (q * a) + 2 * (p * b)
by_mass M Z a b p q u v x y =
    le_of_mul-le-mul_right {m = u * (p * b)} {n = (v + 2) * (q * a) + 2 * (p * b)} {k = M.den * p * Z.num}
    (omega (arith, mul-le-mul_right (p * b) x.below, mul-le-mul_right (p * a) y.above)) x.proper.0

-- the density of air is n / q, rounded air / 10^9
module _ (n q air d rho : ℕ) (x : Within half air ((n * 10 ^ 9) over q)) where
  rho_below : rho * q ≤ (d + 2) * n + 2 * q → 2 * 10 ^ 9 * rho ≤ (d + 2) * (2 * air + 1) + 4 * 10 ^ 9
  rho_below h =
      le_of_mul-le-mul_right {m = 2 * 10 ^ 9 * rho} {n = (d + 2) * (2 * air + 1) + 4 * 10 ^ 9} {k = q}
      (omega (arith, mul-le-mul_right (d + 2) x.above)) x.proper.0

  rho_above : d * n ≤ (rho + 2) * q + 2 * n → 2 * d * air ≤ 2 * 10 ^ 9 * (rho + 2) + 4 * air + 2 + d
  rho_above h =
      le_of_mul-le-mul_right {m = 2 * d * air} {n = 2 * 10 ^ 9 * (rho + 2) + 4 * air + 2 + d} {k = q}
      (omega (arith, mul-le-mul_right d x.below, x.above)) x.proper.0

  -- v is d times it, rounded
  pub by_air_lem : (v : ℕ) → Within half v ((d * air) over (10 ^ 9)) → air ≤ air_density_high → d ≤ relative_bound → rho * q ≤ (d + 2) * n + 2 * q →
      d * n ≤ (rho + 2) * q + 2 * n → Within (whole air_distance) rho (whole v)
  by_air_lem v y air_high_lem d_high below above =
      let low = rho_below below in
      let high = rho_above above in
      record { proper = (omega arith, omega arith); below = omega (arith, y.above); above = omega (arith, y.below) }
