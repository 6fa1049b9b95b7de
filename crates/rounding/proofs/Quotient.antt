-- The nearest whole number as the code finds it: from the quotient and its rest, and digit by digit.
use mathlib.Core.Path.{◌≡◌, sym, ap, ◌∙◌}
use Prim.Native.Nat.{ℕ, ◌+◌, ◌*◌, ◌-◌, ◌/◌, ◌%◌, ◌^◌, ◌≤◌, ◌<◌}
use native.Mathlib.Nat.{div-add-mod', mod-lt, mul-add-div_right, div-eq_of_lt-le}
use native.Mathlib.Omega.{arith}
use lib.IntN.{pos, neg_ℤ}
use Rattle.rounding.specs.Near.{near, near_z}
use Rattle.rounding.specs.Wide.{Wide, dividend}
use Rattle.rounding.proofs.Signs.{near_z_is}

near_is : (n q r : ℕ) → 2 * (r * q) ≤ 2 * n + q → 2 * n + q < 2 * (r * q) + 2 * q → near n q ≡ r
unfolding near
near_is n q r lo hi = div-eq_of_lt-le (2 * q) (omega arith) (omega arith)

module _ (n q : ℕ) (h : 0 < q) where
  pub rest_below : n % q < q
  rest_below = mod-lt n h

  -- the rest is less than what is left of q
  pub stays : n % q < q - n % q → n / q ≡ near n q
  stays k = sym (near_is n q (n / q) (omega (arith, div-add-mod' n q)) (omega (arith, div-add-mod' n q)))

  pub goes_up : q - n % q ≤ n % q → n / q + 1 ≡ near n q
  goes_up k =
      sym (near_is n q (n / q + 1) (omega (arith, div-add-mod' n q, rest_below)) (omega (arith, div-add-mod' n q, rest_below)))

  -- the same for -n / q, where the half goes to the smaller size
  pub stays_below : n % q ≤ q - n % q → neg_ℤ (pos (n / q)) ≡ near_z (neg_ℤ (pos n)) q
  stays_below k = sym (near_z_is n q (n / q) h (omega (arith, div-add-mod' n q, rest_below)) (omega (arith, div-add-mod' n q, rest_below)))

  pub goes_down : q - n % q < n % q → neg_ℤ (pos (n / q + 1)) ≡ near_z (neg_ℤ (pos n)) q
  goes_down k =
      sym (near_z_is n q (n / q + 1) h (omega (arith, div-add-mod' n q, rest_below)) (omega (arith, div-add-mod' n q, rest_below)))

-- whole multiples of q go through
near_shift : (k n q : ℕ) → 0 < q → near (k * q + n) q ≡ k + near n q
unfolding near
near_shift k n q h =
    let e : 2 * (k * q + n) + q ≡ k * (2 * q) + (2 * n + q) = omega arith in
    ap (λ (m : ℕ). m / (2 * q)) e ∙ mul-add-div_right {m = 2 * q} (omega arith) k (2 * n + q)

-- the long division of whole × 10^9 + rest: what stands after the first and after the second step
abbrev after1 : ℕ → ℕ → ℕ → ℕ
after1 whole rest q = whole % q * 100000 + rest / 10000

abbrev after2 : ℕ → ℕ → ℕ → ℕ
after2 whole rest q = after1 whole rest q % q * 10000 + rest % 10000

module _ {whole rest q : ℕ} (w : Wide whole rest q) where
  pub digits : whole / q * 1000000000 + after1 whole rest q / q * 10000 + near (after2 whole rest q) q ≡ near (dividend whole rest) q
  digits =
      let k : ℕ = whole / q * 1000000000 + after1 whole rest q / q * 10000 in
      let e : dividend whole rest ≡ k * q + after2 whole rest q = omega (arith, div-add-mod' whole q, div-add-mod' (after1 whole rest q) q) in
      sym (ap (λ (n : ℕ). near n q) e ∙ near_shift k (after2 whole rest q) q w.proper)

  pub digits_fit : whole / q * 1000000000 + after1 whole rest q / q * 10000 + near (after2 whole rest q) q < 2 ^ 64
  digits_fit = rw digits w.fits
