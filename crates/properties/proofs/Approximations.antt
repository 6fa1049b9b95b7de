-- How rounding carries through the chain: the compression factor, and the quotient of two approximations. Exact sums are fractions.
use Prim.Native.Nat.{ℕ, ◌+◌, ◌*◌, ◌-◌, ◌^◌, ◌≤◌, ◌<◌}
use native.Mathlib.Nat.{mul-le-mul_right, mul-le-mul_left, mul-le-mul, mul-pos, le_of_mul-le-mul_right}
use native.Mathlib.Omega.{arith}
use Rattle.rounding.specs.Near.{near}
use Rattle.rounding.specs.Fraction.{Within, ◌over◌, half, whole}
use Rattle.rounding.proofs.NearLaws.{near_half, at_most, at_least}
use Rattle.components.specs.Bounds.{summation_high}
use Rattle.properties.specs.Bounds.{compression_low, ideal_high}
use Rattle.properties.specs.Unrounded.{tenth, compression, real}

-- The quotient of two approximations: I is N/D to e hundredths, Z is P/R to f hundredths, and Q is I × K / Z rounded. Then Q is within
-- 2 of N × K × R / (D × P), where Z is large enough beside Q.
pub quotient : (e f K N D I P R Z Q : ℕ)
    → Within (e over 100) I (N over D) → Within (f over 100) Z (P over R) → Within half Q ((I * K) over Z)
    → 0 < P → e * K + f * Q + 2 * f ≤ 150 * Z
    → Within (whole 2) Q ((N * K * R) over (D * P))
quotient e f K N D I P R Z Q hI hZ hQ pos side =
    record {
      proper = (mul-pos hI.proper.0 pos, omega arith);
      below = omega (
        arith,
        mul-le-mul_right (Q * D) hZ.above,
        mul-le-mul_right (R * D) hQ.below,
        mul-le-mul_right (K * R) hI.below,
        mul-le-mul_right (R * D) side,
        mul-le-mul_right D hZ.below,
      );
      above = omega (
        arith,
        mul-le-mul_right (Q * D) hZ.below,
        mul-le-mul_right (R * D) hQ.above,
        mul-le-mul_right (K * R) hI.above,
        mul-le-mul_right (R * D) side,
        mul-le-mul_right D hZ.below,
      );
    }

-- The squares of the tenth s and of X / (10 U) are close.
square_up : (U X s : ℕ) → X ≤ summation_high * U → 10 * s ≤ summation_high + 6 → X ≤ 10 * (s * U) + 6 * U
    → X * X ≤ 100 * (s * s * (U * U)) + 64 * 10 ^ 9 * (U * U)
square_up U X s big small hi =
    omega (arith, mul-le-mul_left X hi, mul-le-mul_left (10 * (s * U)) hi, mul-le-mul_right (U * U) small, mul-le-mul_left U big)

square_down : (U X s : ℕ) → X ≤ summation_high * U → 10 * s ≤ summation_high + 6 → 10 * (s * U) ≤ X + 6 * U
    → 100 * (s * s * (U * U)) ≤ X * X + 64 * 10 ^ 9 * (U * U)
square_down U X s big small lo =
    omega (arith, mul-le-mul_left X lo, mul-le-mul_left (10 * (s * U)) lo, mul-le-mul_right (U * U) small, mul-le-mul_left U big)

sum_below : (z q x u : ℕ) → 2 * (10 ^ 9 * z) + 2 * q ≤ (2 * 10 ^ 18 + 10 ^ 9) * u → x ≤ 100 * q + 64 * 10 ^ 9 * u → x ≤ 10 ^ 20 * u
    → 100 * (10 ^ 11 * z) ≤ 100 * (10 ^ 20 * u - x) + 114 * (10 ^ 11 * u)
sum_below z q x u h k l = omega arith

sum_above : (z q x u : ℕ) → 2 * 10 ^ 18 * u ≤ 2 * (10 ^ 9 * z) + 2 * q + 10 ^ 9 * u → 100 * q ≤ x + 64 * 10 ^ 9 * u → x ≤ 10 ^ 20 * u
    → 100 * (10 ^ 20 * u - x) ≤ 100 * (10 ^ 11 * z) + 114 * (10 ^ 11 * u)
sum_above z q x u h k l = omega arith

-- The compression factor. The exact sum is X / U, at most its bound; s is a tenth of it, to 6 tenths.
module _ (U X s : ℕ) (big : X ≤ summation_high * U) (near-s : Within (6 over 10) s (tenth (X over U))) where
  U_pos : 0 < U
  U_pos = omega (arith, near-s.proper.0)

  small : 10 * s ≤ summation_high + 6
  small = le_of_mul-le-mul_right {m = 10 * s} {n = summation_high + 6} {k = U} (omega (arith, near-s.below)) U_pos

  square : 100 * (s * s) ≤ (summation_high + 6) * (summation_high + 6)
  square = omega (arith, mul-le-mul small small)

  abbrev z : ℕ
  z = near (10 ^ 18 - s * s) (10 ^ 9)

  near_z_lem : Within half z ((10 ^ 18 - s * s) over 10 ^ 9)
  near_z_lem = near_half (10 ^ 18 - s * s) (10 ^ 9) (omega arith)

  pub z_low : compression_low ≤ z
  z_low = at_least near_z_lem (omega (arith, square))

  -- without the difference, so that it can be multiplied
  below_z : 2 * (10 ^ 9 * z) + 2 * (s * s) ≤ 2 * 10 ^ 18 + 10 ^ 9
  below_z = omega (arith, square, near_z_lem.below)

  above_z : 2 * 10 ^ 18 ≤ 2 * (10 ^ 9 * z) + 2 * (s * s) + 10 ^ 9
  above_z = omega (arith, square, near_z_lem.above)

  fits : X * X ≤ summation_high * summation_high * (U * U)
  fits = omega (arith, mul-le-mul big big)

  -- the exact compression factor is above 0
  exact_pos : 0 < (compression (tenth (X over U))).num
  exact_pos = omega (arith, fits, mul-pos U_pos U_pos)

  pub z_within : Within (114 over 100) z (compression (tenth (X over U)))
  z_within =
      let lo : 10 * (s * U) ≤ X + 6 * U = omega (arith, near-s.below) in
      let hi : X ≤ 10 * (s * U) + 6 * U = omega (arith, near-s.above) in
      record {
        proper = (omega (arith, mul-pos U_pos U_pos), omega arith);
        below = omega (arith, sum_below (z * (U * U)) (s * s * (U * U)) (X * X) (U * U) (omega (arith, mul-le-mul_right (U * U) below_z)) (square_up U X s big small hi) (omega (arith, fits)));
        above = omega (arith, sum_above (z * (U * U)) (s * s * (U * U)) (X * X) (U * U) (omega (arith, mul-le-mul_right (U * U) above_z)) (square_down U X s big small lo) (omega (arith, fits)));
      }

  -- A real quantity: Q is the ideal I over the compression factor. I is N/D to 51 hundredths, and at most its bound.
  pub real_within : (N D I : ℕ) → Within (51 over 100) I (N over D) → I ≤ ideal_high
      → Within (whole 2) (near (I * 10 ^ 9) z) (real (N over D) (compression (tenth (X over U))))
  real_within N D I hI most =
      let hQ = near_half (I * 10 ^ 9) z (omega (arith, z_low)) in
      let q : near (I * 10 ^ 9) z ≤ 504200000 = at_most hQ (omega (arith, z_low)) in
      quotient 51 114 (10 ^ 9) N D I _ _ z _ hI z_within hQ exact_pos (omega (arith, z_low, q))
