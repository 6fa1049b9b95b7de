-- The first candidate of the search: at least the root, below 2^32, and how far from the root.
use mathlib.Core.Path.{◌≡◌}
use Prim.Native.Nat.{ℕ, ◌+◌, ◌*◌, ◌-◌, ◌^◌, ◌≤◌, ◌<◌}
use native.Mathlib.Omega.{arith}
use native.Mathlib.Nat.{mul-le-mul, mul-le-mul_right, le_of_mul-le-mul_right}
use mathlib.Core.Logic.{⊎_elim}
use Rattle.std.proofs.lemmas.Bool.{cases_lt, lt-ltb, le-ltb}
use Rattle.rounding.specs.Root.{Root, root}
use Rattle.rounding.specs.Search.{next_candidate, natural_root, hydrogen_root, hydrogen_below, natural_below, first_candidate}
use Rattle.rounding.proofs.RootLaws.{below_of_squares, root_greatest}
use Rattle.rounding.proofs.Newton.{not_below, mean_times, Close}

-- (r - lo) × (hi - r) is not below 0
chord : (lo a b r hi : ℕ) → lo + a ≡ r → r + b ≡ hi → r * r + lo * hi ≤ (lo + hi) * r
chord lo a b r hi e f = rw (← f, ← e) (omega arith)

-- the root of the border between the two roots that are near
abbrev border : ℕ
border = 447213595

-- what the search needs of it
pub record Starts (n c : ℕ) : Type 0 where
  pub least : root n ≤ c
  pub top : c < 2 ^ 32

module _ (n : ℕ) (is : Root (root n) n) where
  root_to : (hi : ℕ) → n < (hi + 1) * (hi + 1) → root n ≤ hi
  root_to hi h = omega (arith, below_of_squares (root n) (hi + 1) n is.square h)

  -- the candidate after c, where the root is between lo and hi
  reach : (c lo hi : ℕ) → lo ≤ root n → root n ≤ hi → 2 * (next_candidate n c * c) + lo * hi ≤ c * c + (lo + hi + 2) * root n
  reach c lo hi l h = omega (arith, mean_times n c, is.next, chord lo (root n - lo) (hi - root n) (root n) hi (omega arith) (omega arith))

  -- a candidate of at most s / 10,000 times the root
  close : (c s p q : ℕ) → s * s * q ≤ 100000000 * (q + p) → c * 10000 ≤ s * root n → Close p q n c
  close c s p q k h =
      let e : c * c * 100000000 ≤ s * s * n = omega (arith, mul-le-mul h h, mul-le-mul_right (s * s) is.square) in
      record { ratio = le_of_mul-le-mul_right {m = c * c * q} {n = n * (q + p)} {k = 100000000} (omega (arith, mul-le-mul_right q e, mul-le-mul_right n k)) (omega arith) }

  -- the one after the root for hydrogen
  module _ (h : n < hydrogen_below) where
    first_low : first_candidate n ≡ next_candidate n hydrogen_root
    unfolding first_candidate
    first_low = rw (lt-ltb n hydrogen_below h)

    to_low : root n ≤ border
    to_low = root_to border (omega arith)

    pub low_distance : first_candidate n < root n + 2 ^ 27
    low_distance = rw first_low (omega (arith, reach hydrogen_root 0 border (omega arith) to_low))

    low_starts : Starts n (first_candidate n)
    low_starts = record { least = rw first_low (not_below n hydrogen_root is (omega arith)); top = omega (arith, low_distance, to_low) }

    low_close : 62 * 10 ^ 15 ≤ n → Close 11419 10000 n (first_candidate n)
    low_close l =
        let r = reach hydrogen_root 248997991 border (root_greatest is 248997991 (omega arith)) to_low in
        rw first_low (close (next_candidate n hydrogen_root) 14635 11419 10000 (omega arith) (omega arith))

  -- the one after the root for natural gases
  module _ (l : hydrogen_below ≤ n) (h : n < natural_below) where
    first_middle : first_candidate n ≡ next_candidate n natural_root
    unfolding first_candidate
    first_middle = rw (le-ltb n hydrogen_below l, lt-ltb n natural_below h)

    to_middle : root n ≤ 2449489742
    to_middle = root_to 2449489742 (omega arith)

    middle : (hi : ℕ) → root n ≤ hi → 2 * (next_candidate n natural_root * natural_root) + border * hi ≤ natural_root * natural_root + (border + hi + 2) * root n
    middle hi to = reach natural_root border hi (root_greatest is border (omega arith)) to

    middle_starts : Starts n (first_candidate n)
    middle_starts = rw first_middle (record { least = not_below n natural_root is (omega arith); top = omega (arith, to_middle, middle _ to_middle) })

    middle_distant : Close 208 100 n (first_candidate n)
    middle_distant =
        let to = to_middle in
        let r = middle _ to in
        rw first_middle (close (next_candidate n natural_root) 17400 208 100 (omega arith) (omega arith))

    middle_close : n ≤ 39 * 10 ^ 17 → Close 11419 10000 n (first_candidate n)
    middle_close u =
        let to = root_to 1974841765 (omega arith) in
        let r = middle _ to in
        rw first_middle (close (next_candidate n natural_root) 14635 11419 10000 (omega arith) (omega arith))

  -- the largest root
  module _ (l : natural_below ≤ n) (small : n < 2 ^ 64) where
    first_high : first_candidate n ≡ 2 ^ 32 - 1
    unfolding first_candidate
    first_high = rw (le-ltb n hydrogen_below (omega arith), le-ltb n natural_below l)

    high_starts : Starts n (first_candidate n)
    high_starts = rw first_high (record { least = root_to (2 ^ 32 - 1) (omega arith); top = omega arith })

    high_distant : Close 208 100 n (first_candidate n)
    high_distant = rw first_high (record { ratio = omega arith })

  -- all of them
  pub first_starts : n < 2 ^ 64 → Starts n (first_candidate n)
  first_starts small =
      ⊎_elim low_starts (λ l. ⊎_elim (middle_starts l) (λ h. high_starts h small) (cases_lt n natural_below)) (cases_lt n hydrogen_below)

  pub first_distant : hydrogen_below ≤ n → n < 2 ^ 64 → Close 208 100 n (first_candidate n)
  first_distant l small = ⊎_elim (middle_distant l) (λ h. high_distant h small) (cases_lt n natural_below)

  pub first_close : 62 * 10 ^ 15 ≤ n → n ≤ 39 * 10 ^ 17 → Close 11419 10000 n (first_candidate n)
  first_close l u = ⊎_elim (λ g. low_close g l) (λ h. middle_close h (omega arith) u) (cases_lt n hydrogen_below)
