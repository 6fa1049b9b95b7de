-- The Wobbe index: the distance of W from Hs / √d, both exact, by cross multiplication.
use mathlib.Core.Path.{◌≡◌, ap}
use Prim.Native.Nat.{ℕ, ◌+◌, ◌*◌, ◌-◌, ◌^◌, ◌≤◌}
use native.Mathlib.Nat.{mul-le-mul_right, mul-le-mul}
use native.Mathlib.Omega.{arith}
use Rattle.rounding.specs.Fraction.{Within, ◌over◌, half, whole}
use Rattle.rounding.specs.Root.{Root}
use Rattle.properties.specs.Distances.{Indexed}

-- a is a root of L × dn / dd from above, and w × a is at most K times hn / hd
square_under : (w a K L hn hd dn dd : ℕ) → L * dn ≤ a * a * dd → w * a * hd ≤ hn * K → L * (w * w * dn * (hd * hd)) ≤ hn * hn * dd * (K * K)
square_under w a K L hn hd dn dd h k = omega (arith, mul-le-mul_right (w * w * (hd * hd)) h, mul-le-mul_right dd (mul-le-mul k k))

-- the same from below
square_over : (w a K L hn hd dn dd : ℕ) → a * a * dd ≤ L * dn → hn * K ≤ w * a * hd → hn * hn * dd * (K * K) ≤ L * (w * w * dn * (hd * hd))
square_over w a K L hn hd dn dd h k = omega (arith, mul-le-mul_right (w * w * (hd * hd)) h, mul-le-mul_right dd (mul-le-mul k k))

-- H is within 2 of hn/hd and d of dn/dd; r is the root, and W the index rounded. k is how far 2 units of d may move the root, t the
-- distance.
module _ (k t H hn hd d dn dd r W : ℕ)
    (hH : Within (whole 2) H (hn over hd)) (hD : Within (whole 2) d (dn over dd)) (hr : Root r (d * 10 ^ 10)) (hW : Within half W ((H * 10 ^ 9) over r))
    (moved : 2 * 10 ^ 10 + k * k ≤ 2 * (k * r)) (room : 4 * 10 ^ 9 + 2 * ((k + 1) * W) + 2 * (t * k) + r ≤ 2 * (t * r)) where
  root_over : 10 ^ 10 * dn ≤ (r + k + 1) * (r + k + 1) * dd
  root_over =
      let h : 10 ^ 10 * (d + 2) ≤ (r + k + 1) * (r + k + 1) = omega (arith, hr.next) in
      omega (arith, hD.above, mul-le-mul_right dd h)

  root_under : (a : ℕ) → a + k ≡ r → a * a * dd ≤ 10 ^ 10 * dn
  root_under a e =
      let h : a * a + 2 * 10 ^ 10 ≤ d * 10 ^ 10 = omega (arith, hr.square, ap (λ (x : ℕ). x * x) e, ap (λ (x : ℕ). k * x) e) in
      omega (arith, hD.below, mul-le-mul_right dd h)

  num_under : (w : ℕ) → w + t ≡ W → w * (r + k + 1) * hd ≤ hn * 10 ^ 9
  num_under w e =
      let h : w * (r + k + 1) + 2 * 10 ^ 9 ≤ H * 10 ^ 9 = omega (arith, hW.below, ap (λ (x : ℕ). x * (r + k + 1)) e) in
      omega (arith, hH.below, mul-le-mul_right hd h)

  num_over : (a : ℕ) → a + k ≡ r → hn * 10 ^ 9 ≤ (W + t) * a * hd
  num_over a e =
      let h : H * 10 ^ 9 + 2 * 10 ^ 9 ≤ (W + t) * a = omega (arith, hW.above, ap (λ (x : ℕ). (W + t) * x) e) in
      omega (arith, hH.above, mul-le-mul_right hd h)

  pub indexed : t ≤ W → k ≤ r → Indexed t W (hn over hd) (dn over dd)
  indexed l m =
      record {
        proper = (hH.proper.0, hD.proper.0);
        least = l;
        under = omega (arith, square_under (W - t) (r + k + 1) (10 ^ 9) (10 ^ 10) hn hd dn dd root_over (num_under (W - t) (omega arith)));
        over = omega (arith, square_over (W + t) (r - k) (10 ^ 9) (10 ^ 10) hn hd dn dd (root_under (r - k) (omega arith)) (num_over (r - k) (omega arith)));
      }
