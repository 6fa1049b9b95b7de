-- The products fit 64 bits, and the divisor is at least that of 0 °C.
use Rattle.std.proofs.Common.{ℕ, ◌*◌, ◌≤◌, mul-le-mul, arith}
use Rattle.rounding.proofs.NearLaws as near
use Rattle.properties.specs.Chain.{divisor, temperature, ideal_calorific}
use Rattle.properties.proofs.StepBounds.{divisor_low_lem, calorific_near}
use Rattle.printed_tables.proofs.tables.Table5.figure.Goals as goal

-- a value of a million times a small h
value_high_lem : (h metering : ℕ) → 1000000 * h ≤ 10000000000000 → ideal_calorific (1000000 * h) (divisor (temperature metering)) ≤ 500000000
value_high_lem h metering high =
    let d = divisor_low_lem metering in
    let close = calorific_near (1000000 * h) (divisor (temperature metering)) (omega arith) in
    near.at_most {b = 500000000} close (omega (arith, high))

pub overflow_mul-value : goal.overflow_mul-value
overflow_mul-value c =
    let v : c.ideal_calorific_value-value.result ≤ 500000000 = rw c.ideal_calorific_value-value.ensures (value_high_lem c.number-h.result c.conditions_of-conditions.result.metering (omega arith)) in
    record { fits = omega (arith, mul-le-mul v c.scale_of_line.ensures.1) }
