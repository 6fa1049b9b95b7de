-- After i turns the sums are those of the first i parts.
use Rattle.std.proofs.Common.{◌≡◌, arith, to_z-of_z, w64, ℤ, to_z, of_z}
use Rattle.std.proofs.lemmas.Int.{fits_signed_from_abs}
use Rattle.components.specs.Composition.{total}
use Rattle.properties.specs.Chain.{S}
use Rattle.printed_tables.specs.Gas.{gas, fraction_at, mass_part, volume_part, sum_to}
use Rattle.printed_tables.proofs.GasLaws.{s_value, fraction_high, mass_part_high, volume_part_high, more_fits}
use Rattle.printed_tables.proofs.gas.gas_totals.Goals as goal

s_read : (n : ℤ) → n ≡ S gas → to_z w64 (of_z w64 n) ≡ S gas
s_read n e = rw e (to_z-of_z (fits_signed_from_abs w64 (S gas) (omega (arith, s_value))))

pub overflow_add-x : goal.overflow_add-x
overflow_add-x c = more_fits fraction_at (λ k h. omega (arith, fraction_high k h)) _ c.loop-i-test.true c.loop-i.invariant.0 c.fraction-x.ensures

pub overflow_add-mass : goal.overflow_add-mass
overflow_add-mass c = more_fits mass_part mass_part_high _ c.loop-i-test.true c.loop-i.invariant.1 c.mass_part-mass.ensures

pub overflow_add-volume : goal.overflow_add-volume
overflow_add-volume c = more_fits volume_part volume_part_high _ c.loop-i-test.true c.loop-i.invariant.2 c.volume_part-volume.ensures

pub returns : goal.returns
unfolding sum_to total
returns c =
    let e : c.loop-i.i ≡ 8 = omega arith in
    let inv = c.loop-i.invariant in
    let sums = c.sums-sums.ensures in
    rw (sums.superior, sums.mass, c.unsigned_abs-s.ensures.value, s_read _ sums.summation, inv.0, inv.1, inv.2, e)
