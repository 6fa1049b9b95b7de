-- The mean of a sound energy: no more than the ceiling of a calorific value, and within reach of the division of two words.
use Prim.Native.Nat.{ℕ, ◌≤◌, ◌<◌}
use native.Mathlib.Omega.{arith}
use Rattle.rounding.specs.Wide.{Wide}
use Rattle.rounding.proofs.NearLaws.{near_half, at_most}
use Rattle.properties.specs.Quantities.{calorific_bound}
use Rattle.meter.specs.declared.Register.{Register}
use Rattle.meter.specs.State.{most_total, SoundEnergy, amount_in, per_mj}
use Rattle.meter.specs.Calls.{mean_in}

module _ (e : Register) (v : ℕ) (sound : SoundEnergy v e) (total : v ≤ most_total) (some : 0 < v) where
  pub mean_bounded : mean_in e v ≤ calorific_bound
  mean_bounded = at_most (near_half (amount_in per_mj e) v some) (omega (arith, sound.most))

  pub mean_wide : Wide e.whole e.rest v
  mean_wide = record { proper = some; small = omega (arith, total); below = sound.rest; fits = omega (arith, mean_bounded) }
