-- Laws of `near`: it differs from n/q by at most a half, it is monotone, and it is exact on multiples of q. Each holds too where
-- halves go to the even neighbour, on both scales.
use mathlib.Core.Path.{◌≡◌, refl}
use Prim.Native.Nat.{ℕ, suc, ◌+◌, ◌*◌, ◌-◌, ◌/◌, ◌≤◌, ◌<◌}
use native.Mathlib.Nat.{div-mul-le_self, lt-div-mul-add, le-div_iff_mul-le, div-eq_of_lt-le, le_of_mul-le-mul_right}
use native.Mathlib.Omega.{arith}
use lib.IntN.{pos, negsuc, neg_ℤ}
use Rattle.rounding.specs.Near.{near, near_z, floor}
use Rattle.rounding.specs.Fraction.{Within, ◌over◌, half}
use Rattle.rounding.specs.Laws.{NearHalf, NearMonotone, NearExact, NearZPos, NearZNeg, NearZHalf}
use Rattle.rounding.proofs.SignedWords.{nat_abs_neg}
use Rattle.rounding.proofs.Signs.{near_z_is}

pub near_half : NearHalf
unfolding near
near_half n q h =
    record {
      proper = (h, omega arith);
      below = omega (arith, div-mul-le_self (2 * n + q) (2 * q));
      above = omega (arith, lt-div-mul-add {a = 2 * n + q} {b = 2 * q} (omega arith));
    }

pub near_monotone : NearMonotone
unfolding near
near_monotone n m q h l =
    (le-div_iff_mul-le {k = 2 * q} (omega arith)).1 (omega (arith, div-mul-le_self (2 * n + q) (2 * q)))

pub near_exact : NearExact
unfolding near
near_exact k q h = div-eq_of_lt-le (2 * q) (omega arith) (omega arith)

-- a whole bound of n/q is one of every number within a half of it
pub at_most : {r n q b : ℕ} → Within half r (n over q) → n ≤ b * q → r ≤ b
at_most {r} {n} {q} {b} w l =
    let h : 2 * r ≤ 2 * b + 1 = le_of_mul-le-mul_right {m = 2 * r} {n = 2 * b + 1} {k = q} (omega (arith, w.below)) w.proper.0 in
    omega arith

pub at_least : {r n q b : ℕ} → Within half r (n over q) → b * q ≤ n → b ≤ r
at_least {r} {n} {q} {b} w l =
    let h : 2 * b ≤ 2 * r + 1 = le_of_mul-le-mul_right {m = 2 * b} {n = 2 * r + 1} {k = q} (omega (arith, w.above)) w.proper.0 in
    omega arith

-- on the signed scale: where n is not below 0 it is that number; where n is below 0 it is not above 0
pub near_z_pos : NearZPos
unfolding near_z near floor
near_z_pos n q = refl

-- the size that it gives of a number below 0
size : ℕ → ℕ → ℕ
size n q = (2 * n + q - 1) / (2 * q)

near_z_size : (n q : ℕ) → 0 < q → 0 < n → (near_z (neg_ℤ (pos n)) q ≡ neg_ℤ (pos (size n q))) × Within half (size n q) (n over q)
unfolding size
near_z_size n q h p =
    let low = div-mul-le_self (2 * n + q - 1) (2 * q) in
    let high = lt-div-mul-add {a = 2 * n + q - 1} {b = 2 * q} (omega arith) in
    (near_z_is n q ((2 * n + q - 1) / (2 * q)) h (omega arith) (omega arith), record { proper = (h, omega arith); below = omega arith; above = omega arith })

pub near_z_neg : NearZNeg
near_z_neg n q h = let e = (near_z_size (suc n) q h (omega arith)).0 in rw (e, nat_abs_neg)

-- its size is within a half of the size of n/q
pub near_z_half : NearZHalf
near_z_half (pos n) q h = rw (near_z_pos n q) (near_half n q h)
near_z_half (negsuc n) q h = let s = near_z_size (suc n) q h (omega arith) in rw (s.0, nat_abs_neg) s.1
