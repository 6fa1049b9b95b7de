-- Each step gives its letter of the chain, and the sums keep each step within what it asks.
use mathlib.Core.Path.{◌≡◌}
use Prim.Native.Nat.{ℕ, ◌*◌, ◌^◌, ◌≤◌}
use native.Mathlib.Omega.{arith}
use lib.IntN.{ℤ}
use mir.Syntax.{w64}
use mir.Val.{to_z, of_z}
use Rattle.components.specs.Bounds.{heat_high, mass_low, mass_high, heat_by_mass}
use Rattle.properties.specs.Bounds.{air_high, compression_low, ideal_calorific_high, ideal_high, ideal_relative_high, relative_low}
use Rattle.properties.specs.Quantities.{calorific_bound, density_bound, relative_bound}
use Rattle.properties.specs.Chain.{temperature, divisor, air_factor, compression, tenth, ideal_calorific, ideal_density, ideal_relative, T, D, S9, Z, Hs, Hi, rho, A, G, d, r, W}
use Rattle.properties.specs.Accepted.{Summed}
use Rattle.properties.proofs.StepBounds.{compression_high, divisor_low_lem, air_low_lem, air_high_lem, ideal_calorific_high_lem, ideal_density_high, ideal_relative_high_lem, ideal_relative_low, ideal_by_relative, real_high, real_low, real_by_real, real_fits}
use Rattle.properties.proofs.Gas.{superior_bounds, inferior_bounds, mass_low_lem, mass_high_lem, summation_high_lem, summation_word, Z-low}
use Rattle.properties.proofs.properties_from.Goals as goal

module _ {superior inferior mass metering : ℕ} {summation : ℤ} (q : Summed superior inferior mass summation metering) where
  superior_most : superior ≤ heat_high
  superior_most = rw q.sums.superior_is (superior_bounds q.gas q.acceptable).1

  inferior_most : inferior ≤ heat_high
  inferior_most = rw q.sums.inferior_is (inferior_bounds q.gas q.acceptable).1

  superior_by_mass : superior ≤ heat_by_mass * mass
  superior_by_mass = rw (q.sums.superior_is, q.sums.mass_is) (superior_bounds q.gas q.acceptable).2

  mass_least : mass_low ≤ mass
  mass_least = rw q.sums.mass_is (mass_low_lem q.gas q.acceptable)

  mass_most : mass ≤ mass_high
  mass_most = rw q.sums.mass_is (mass_high_lem q.gas q.acceptable)

  -- the summation, which the code has as a signed word
  word : to_z w64 (of_z w64 summation) ≡ summation
  word = summation_word q.gas q.acceptable q.sums.summation_is

  compression_least : {z : ℕ} → z ≡ compression (tenth (to_z w64 (of_z w64 summation))) → compression_low ≤ z
  unfolding Z S9
  compression_least e = rw (e, word, q.sums.summation_is) (Z-low q.gas q.acceptable)

  air_most : {air : ℕ} → air ≡ air_factor metering → air ≤ air_high
  air_most e = rw e (air_high_lem metering)

  heat_ideal : {Hm ideal : ℕ} → Hm ≤ heat_high → ideal ≡ ideal_calorific Hm (divisor (temperature metering)) → ideal ≤ ideal_calorific_high
  heat_ideal h e = rw e (ideal_calorific_high_lem _ _ h (divisor_low_lem metering))

  mass_ideal : {ideal : ℕ} → ideal ≡ ideal_density mass (divisor (temperature metering)) → ideal ≤ ideal_high
  mass_ideal e = rw e (ideal_density_high mass _ mass_most (divisor_low_lem metering))

  relative_ideal : {air ideal : ℕ} → air ≡ air_factor metering → ideal ≡ ideal_relative mass air → ideal ≤ ideal_relative_high
  relative_ideal {air} a e = rw e (ideal_relative_high_lem mass air mass_most (air_most a))

  relative_least : {air ideal : ℕ} → air ≡ air_factor metering → ideal ≡ ideal_relative mass air → relative_low ≤ ideal
  relative_least {air} a e = rw e (ideal_relative_low mass air mass_least (rw a (air_low_lem metering)))

  heat_relative : {air ideal relative : ℕ} → air ≡ air_factor metering → ideal ≡ ideal_calorific superior (divisor (temperature metering))
      → relative ≡ ideal_relative mass air → ideal ≤ 2 * relative
  heat_relative {air} a i g =
      rw (i, g)
      (ideal_by_relative superior mass _ air superior_by_mass (divisor_low_lem metering) (rw a (air_low_lem metering)) (ideal_relative_low mass air mass_least (rw a (air_low_lem metering))))

pub compression_factor-z-requires : goal.compression_factor-z-requires
compression_factor-z-requires c = let q = c.requires in rw (word q, q.sums.summation_is) (summation_high_lem q.gas q.acceptable)

pub ideal_calorific_value-requires : goal.ideal_calorific_value-requires
ideal_calorific_value-requires c = omega (arith, superior_most c.requires)

pub ideal_calorific_value-requires-2 : goal.ideal_calorific_value-requires-2
ideal_calorific_value-requires-2 c = omega (arith, inferior_most c.requires)

pub ideal_density-requires : goal.ideal_density-requires
ideal_density-requires c = omega (arith, mass_most c.requires)

pub ideal_relative_density-requires : goal.ideal_relative_density-requires
ideal_relative_density-requires c = (omega (arith, mass_most c.requires), air_most c.requires c.air_factor-air.ensures)

pub real-hs-requires : goal.real-hs-requires
real-hs-requires c =
    let ideal = heat_ideal c.requires (superior_most c.requires) c.ideal_calorific_value.ensures in
    (omega arith, real_fits ideal_calorific_high calorific_bound ideal (compression_least c.requires c.compression_factor-z.ensures) (omega arith))

pub real-hi-requires : goal.real-hi-requires
real-hi-requires c =
    let ideal = heat_ideal c.requires (inferior_most c.requires) c.ideal_calorific_value-2.ensures in
    (omega arith, real_fits ideal_calorific_high calorific_bound ideal (compression_least c.requires c.compression_factor-z.ensures) (omega arith))

pub real-rho-requires : goal.real-rho-requires
real-rho-requires c =
    let ideal = mass_ideal c.requires c.ideal_density.ensures in
    (omega arith, real_fits ideal_high density_bound ideal (compression_least c.requires c.compression_factor-z.ensures) (omega arith))

pub real-d-requires : goal.real-d-requires
real-d-requires c =
    let ideal = relative_ideal c.requires c.air_factor-air.ensures c.ideal_relative_density.ensures in
    (omega arith, real_fits ideal_relative_high relative_bound ideal (compression_least c.requires c.compression_factor-z.ensures) (omega arith))

pub wobbe_index-w-requires-clause-known : goal.wobbe_index-w-requires-clause-known
wobbe_index-w-requires-clause-known c =
    let z = compression_least c.requires c.compression_factor-z.ensures in
    let z_most : c.compression_factor-z.result.value ≤ 10 ^ 9 = rw c.compression_factor-z.ensures (compression_high _) in
    let heat = heat_ideal c.requires (superior_most c.requires) c.ideal_calorific_value.ensures in
    let most = relative_ideal c.requires c.air_factor-air.ensures c.ideal_relative_density.ensures in
    let least = relative_least c.requires c.air_factor-air.ensures c.ideal_relative_density.ensures in (
      rw c.real-hs.ensures (real_high _ _ z calorific_bound (omega (arith, heat))),
      rw c.real-d.ensures (real_low _ _ z z_most relative_low least),
      rw c.real-d.ensures (real_high _ _ z relative_bound (omega (arith, most))),
    )

pub wobbe_index-w-requires-clause-by_density : goal.wobbe_index-w-requires-clause-by_density
wobbe_index-w-requires-clause-by_density c =
    rw (c.real-hs.ensures, c.real-d.ensures)
    (real_by_real _ _ _ (compression_least c.requires c.compression_factor-z.ensures) (heat_relative c.requires c.air_factor-air.ensures c.ideal_calorific_value.ensures c.ideal_relative_density.ensures))

-- the chain of any composition with these sums
pub returns : goal.returns
unfolding T D S9 Z Hs Hi rho A G d r W
returns c k sums = cc (word c.requires, sums.superior_is, sums.inferior_is, sums.mass_is, sums.summation_is, sums.metering_is)
