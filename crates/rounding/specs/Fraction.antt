-- Fractions of two whole numbers, and how far a whole number is from one, by cross multiplication.
use Rattle.std.specs.Prelude.{ℕ, ◌+◌, ◌*◌, ◌≤◌, ◌<◌}

-- num / den
pub record Fraction : Type 0 where
  pub num : ℕ
  pub den : ℕ

-- n / q
infixl 20 ◌over◌
abbrev pub ◌over◌ : ℕ → ℕ → Fraction
n over q = record { num = n; den = q }

-- the whole number n
abbrev pub whole : ℕ → Fraction
whole n = n over 1

abbrev pub half : Fraction
half = 1 over 2

-- the sum, by cross multiplication
abbrev pub plus : Fraction → Fraction → Fraction
plus x y = (x.num * y.den + y.num * x.den) over (x.den * y.den)

-- k times x
abbrev pub times : ℕ → Fraction → Fraction
times k x = (k * x.num) over x.den

-- x / k
abbrev pub divided_by : Fraction → ℕ → Fraction
divided_by x k = x.num over (x.den * k)

-- v differs from x by at most t: v ≤ x + t and x ≤ v + t, each multiplied by the two denominators, which are above 0
pub record Within (t : Fraction) (v : ℕ) (x : Fraction) : Type 0 where
  pub proper : (0 < x.den) × (0 < t.den)
  pub below : v * x.den * t.den ≤ x.num * t.den + t.num * x.den
  pub above : x.num * t.den ≤ v * x.den * t.den + t.num * x.den
