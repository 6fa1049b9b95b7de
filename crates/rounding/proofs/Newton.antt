-- Newton's method for a root, from above: how the candidate after c lies to the root of n and to c.
use mathlib.Core.Path.{◌≡◌}
use Prim.Native.Nat.{ℕ, ◌+◌, ◌*◌, ◌-◌, ◌/◌, ◌^◌, ◌≤◌, ◌<◌}
use native.Mathlib.Omega.{arith}
use native.Mathlib.Nat.{mul-le-mul, mul-le-mul_left, mul-le-mul_right, le_of_mul-le-mul_right, mul-pos, div-mul-le_self, lt-mul-div-succ, div-lt_iff_lt-mul}
use mathlib.Core.Logic.{⊎_elim}
use Rattle.std.proofs.lemmas.Bool.{cases_lt}
use Rattle.rounding.specs.Root.{Root, root}
use Rattle.rounding.specs.Search.{next_candidate}
use Rattle.rounding.proofs.RootLaws.{below_of_squares}

-- a product is at most the square of the mean
ordered : (c e r : ℕ) → 2 * c + e ≤ 2 * r → c * (c + e) ≤ r * r
ordered c e r h = omega (arith, mul-le-mul h h)

mean_square : (c u r : ℕ) → c + u ≤ 2 * r → c * u ≤ r * r
mean_square c u r h =
    ⊎_elim
    (λ l. let e : c + (u - c) ≡ u = omega arith in rw (← e) (ordered c (u - c) r (omega arith)))
    (λ l. let e : u + (c - u) ≡ c = omega arith in omega (arith, rw e at (ordered u (c - u) r (omega arith))))
    (cases_lt c u)

module _ (n c : ℕ) where
  -- the mean of c and n/c is at least the root
  pub not_below : Root (root n) n → 0 < c → root n ≤ next_candidate n c
  unfolding next_candidate
  not_below is h =
      ⊎_elim
      (λ l. absurd (omega (arith, mean_square c (n / c + 1) (root n) (omega arith), is.square, lt-mul-div-succ n {b = c} h)))
      (λ l. omega arith)
      (cases_lt (c + n / c) (2 * root n))

  module _ (is : Root (root n) n) (h : root n < c) where
    quotient_below : n / c < root n + 1
    quotient_below = (div-lt_iff_lt-mul {k = c} (omega arith)).1 (omega (arith, is.next, mul-le-mul_left (root n + 1) h))

    -- and at most half as far from it as c is
    pub half_as_far : 2 * next_candidate n c ≤ c + root n
    unfolding next_candidate
    half_as_far = omega (arith, quotient_below)

-- where the square of c is above n, the candidate after c is below c
module _ (n c : ℕ) (h : n < c * c) where
  pub positive : 0 < c
  positive = below_of_squares 0 c n (omega arith) h

  pub falls : next_candidate n c < c
  unfolding next_candidate
  falls = omega (arith, (div-lt_iff_lt-mul {k = c} positive).1 h)

-- the mean times c
pub mean_times : (n c : ℕ) → 2 * (next_candidate n c * c) ≤ c * c + n
unfolding next_candidate
mean_times n c =
    let twice : 2 * ((c + n / c) / 2) ≤ c + n / c = omega arith in
    omega (arith, mul-le-mul_right c twice, div-mul-le_self n c)

-- How far the square of a candidate is above n, as a fraction of n: c² is at most (1 + p/q) n.
pub record Close (p q n c : ℕ) : Type 0 where
  pub ratio : c * c * q ≤ n * (q + p)

-- twice the product of two numbers, squared
doubled : (m c n d : ℕ) → 2 * (m * c) ≤ c * c + n → n + d ≡ c * c → 4 * (c * c * (m * m)) ≤ (2 * n + d) * (2 * n + d)
doubled m c n d h e =
    let k : 2 * (m * c) ≤ 2 * n + d = omega arith in
    omega (arith, mul-le-mul k k)

-- c² = n + d and a square n + y of the next candidate: y is at most d² / 4c²
gap : (n d y : ℕ) → 4 * ((n + d) * (n + y)) ≤ (2 * n + d) * (2 * n + d) → 4 * ((n + d) * y) ≤ d * d
gap n d y h = omega arith

-- so that with d at most (p/q) n the gap y is at most (p'/q') n, where p'/q' is at least p² / 4q(p + q)
shrinks : (n d y p q p' q' : ℕ) → 0 < q → 0 < n + d → 4 * ((n + d) * y) ≤ d * d → d * q ≤ n * p → p * p * q' ≤ 4 * (q * (p + q)) * p' → y * q' ≤ n * p'
shrinks n d y p q p' q' hq hc a b k =
    let w : ℕ = q * (p + q) in
    let e : 4 * w * y ≤ p * p * n =
    le_of_mul-le-mul_right {m = 4 * w * y} {n = p * p * n} {k = n + d} (omega (arith, mul-le-mul_right w a, mul-le-mul b b, mul-le-mul_right (p * d) b)) hc in
    le_of_mul-le-mul_right {m = y * q'} {n = n * p'} {k = 4 * w} (omega (arith, mul-le-mul_right q' e, mul-le-mul_right n k)) (omega (arith, mul-pos {n = p + q} hq (omega arith)))

-- where the square of c is above n, the candidate after it is closer
module _ (n c : ℕ) (h : n < c * c) where
  abbrev m : ℕ
  m = next_candidate n c

  -- with the squares of c and of the next candidate as n + d and n + y
  squares : (d y : ℕ) → n + d ≡ c * c → n + y ≡ m * m → 4 * ((n + d) * y) ≤ d * d
  squares d y e f = gap n d y (rw (e, f) (doubled (next_candidate n c) c n d (mean_times n c) e))

  pub closer : (p q p' q' : ℕ) → 0 < q → p * p * q' ≤ 4 * (q * (p + q)) * p' → Close p q n c → Close p' q' n m
  closer p q p' q' hq k a =
      ⊎_elim (λ l. record { ratio = above (c * c - n) (m * m - n) (omega arith) (omega arith) }) (λ l. record { ratio = omega (arith, mul-le-mul_right q' l) }) (cases_lt n (m * m))
    where
      above : (d y : ℕ) → n + d ≡ c * c → n + y ≡ m * m → m * m * q' ≤ n * (q' + p')
      above d y e f =
          let b : d * q ≤ n * p = omega (arith, rw (← e) at a.ratio) in
          rw (← f) (omega (arith, shrinks n d y p q p' q' hq (omega arith) (squares d y e f) b k))

  -- and the root, once the square of c is at most 10^-11 of n above it
  pub root_next : n < 2 ^ 64 → Close 1 100000000000 n c → m * m ≤ n
  root_next small a = ⊎_elim (λ l. above (c * c - n) (m * m - n) (omega arith) (omega arith) (omega arith)) (λ l. l) (cases_lt n (m * m))
    where
      above : (d y : ℕ) → n + d ≡ c * c → n + y ≡ m * m → 0 < y → m * m ≤ n
      above d y e f py =
          let b : d * 100000000000 ≤ n = omega (arith, rw (← e) at a.ratio) in
          let s : d ≤ 184467441 = omega arith in
          absurd (omega (arith, squares d y e f, mul-le-mul_left (n + d) py, mul-le-mul_left d s))
