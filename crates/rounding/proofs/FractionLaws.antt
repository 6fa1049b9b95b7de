-- Distances add up, are multiplied with what they measure, and may be taken larger.
use Prim.Native.Nat.{ℕ, ◌+◌, ◌*◌}
use native.Mathlib.Nat.{mul-le-mul_right, mul-pos, le_of_mul-le-mul_right}
use native.Mathlib.Omega.{arith}
use Rattle.rounding.specs.Fraction.{Fraction, Within, ◌over◌}
use Rattle.rounding.specs.Laws.{WithinPlus, WithinTimes, WithinWider}

pub within_plus : WithinPlus
within_plus t u v w x y a b =
    record {
      proper = (mul-pos a.proper.0 b.proper.0, omega arith);
      below = omega (arith, mul-le-mul_right y.den a.below, mul-le-mul_right x.den b.below);
      above = omega (arith, mul-le-mul_right y.den a.above, mul-le-mul_right x.den b.above);
    }

pub within_times : WithinTimes
within_times k t v x a =
    record {
      proper = a.proper;
      below = omega (arith, mul-le-mul_right k a.below);
      above = omega (arith, mul-le-mul_right k a.above);
    }

pub within_wider : WithinWider
within_wider t u v x p h w =
    let more = mul-le-mul_right x.den h in
    record {
      proper = (w.proper.0, p);
      below = le_of_mul-le-mul_right {m = v * x.den * u.den} {n = x.num * u.den + u.num * x.den} {k = t.den} (omega (arith, mul-le-mul_right u.den w.below, more)) w.proper.1;
      above = le_of_mul-le-mul_right {m = x.num * u.den} {n = v * x.den * u.den + u.num * x.den} {k = t.den} (omega (arith, mul-le-mul_right u.den w.above, more)) w.proper.1;
    }

-- a denominator multiplied by 1
pub within_one : {v n q : ℕ} {t : Fraction} → Within t v (n over q) → Within t v (n over (1 * q))
within_one w = record { proper = (omega (arith, w.proper.0), w.proper.1); below = omega (arith, w.below); above = omega (arith, w.above) }
