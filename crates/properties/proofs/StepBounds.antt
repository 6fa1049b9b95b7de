-- Bounds of the numbers of each step, from bounds of the numbers that it takes.
use mathlib.Core.Path.{◌≡◌, refl}
use mathlib.Core.Bool.{Bool, true, false}
use Prim.Native.Nat.{ℕ, ◌+◌, ◌*◌, ◌-◌, ◌^◌, ◌≤◌, ◌<◌}
use native.Mathlib.Nat.{mul-le-mul, mul-le-mul_left, mul-le-mul_right, le_of_mul-le-mul_right}
use native.Mathlib.Omega.{arith}
use lib.Dec.{eqb}
use Rattle.std.proofs.lemmas.Bool.{cond_both}
use lib.IntN.{ℤ, nat_abs}
use Rattle.rounding.specs.Near.{near}
use Rattle.rounding.specs.Root.{Root}
use Rattle.rounding.specs.Fraction.{Within, ◌over◌, half}
use Rattle.rounding.proofs.NearLaws.{near_half, near_z_half, at_most, at_least}
use Rattle.rounding.proofs.RootLaws.{root_is, root_greatest, below_of_squares}
use Rattle.components.specs.Bounds.{heat_low, heat_high, mass_low, mass_high, heat_by_mass, summation_high}
use Rattle.properties.specs.Bounds.{divisor_low, divisor_high, air_low, air_high, compression_low, calorific_low, ideal_calorific_high, density_low, relative_low, ideal_relative_high, ideal_high, root_low, root_high, wobbe_low, air_density, air_density_high, by_air}
use Rattle.properties.specs.Quantities.{relative_bound, wobbe_bound, mass_calorific_bound}
use Rattle.properties.specs.Chain.{for_metering, temperature, divisor, metering_place, combustion_place, air_factor, tenth, ideal_calorific, ideal_density, ideal_relative, real, root_of, wobbe}
use Rattle.properties.specs.PerKilogram.{per_kilogram}

-- what holds of three numbers holds of the one chosen
pub chosen : (P : ℕ → Type 0) {x y z : ℕ} → P x → P y → P z → (m : ℕ) → P (for_metering x y z m)
chosen P {x} {y} {z} hx hy hz m = cond_both (eqb m 0) x _ P (λ e. hx) (λ e. cond_both (eqb m 15) y z P (λ f. hy) (λ f. hz))

temperature_low : (m : ℕ) → 27315 ≤ temperature m
temperature_low = chosen (λ (n : ℕ). 27315 ≤ n) (omega arith) (omega arith) (omega arith)

pub divisor_low_lem : (m : ℕ) → divisor_low ≤ divisor (temperature m)
divisor_low_lem m = omega (arith, temperature_low m)

pub temperature_high : (m : ℕ) → temperature m ≤ 29315
temperature_high = chosen (λ (n : ℕ). n ≤ 29315) (omega arith) (omega arith) (omega arith)

pub air_low_lem : (m : ℕ) → air_low ≤ air_factor m
air_low_lem = chosen (λ (n : ℕ). air_low ≤ n) (omega arith) (omega arith) (omega arith)

pub air_high_lem : (m : ℕ) → air_factor m ≤ air_high
air_high_lem = chosen (λ (n : ℕ). n ≤ air_high) (omega arith) (omega arith) (omega arith)

-- the density of air at each metering temperature
pub air_density_lem : (m : ℕ) → for_metering 1292922827 1225409709 1204448732 m ≡ air_density m
unfolding near
air_density_lem m = go (eqb m 0) (eqb m 15) refl refl
  where
    go : (a b : Bool) → eqb m 0 ≡ a → eqb m 15 ≡ b → for_metering 1292922827 1225409709 1204448732 m ≡ air_density m
    go true b e f = rw e
    go false true e f = rw (e, f)
    go false false e f = rw (e, f)

pub air_density_high_lem : (m : ℕ) → air_density m ≤ air_density_high
air_density_high_lem m = rw (← air_density_lem m) (chosen (λ (n : ℕ). n ≤ air_density_high) (omega arith) (omega arith) (omega arith) m)

pub by_air_high : (m d : ℕ) → d ≤ relative_bound → by_air m d ≤ 10 ^ 9
by_air_high m d h = at_most (near_half (d * air_density m) (10 ^ 9) (omega arith)) (omega (arith, mul-le-mul h (air_density_high_lem m)))

pub metering_place_lem : (m : ℕ) → metering_place m < 3
metering_place_lem = chosen (λ (n : ℕ). n < 3) (omega arith) (omega arith) (omega arith)

pub combustion_place_lem : (c : ℕ) → combustion_place c < 4
combustion_place_lem c =
    let P : ℕ → Type 0 = λ n. n < 4 in
    cond_both (eqb c 25) 0 _ P (λ e. omega arith) (λ e. cond_both (eqb c 20) 1 _ P (λ f. omega arith) (λ f. cond_both (eqb c 15) 2 3 P (λ g. omega arith) (λ g. omega arith)))

-- ideal values
module _ (Hm D : ℕ) where
  pub calorific_near : 0 < D → Within half (ideal_calorific Hm D) ((Hm * 1013250) over D)
  calorific_near h = near_half (Hm * 1013250) D h

  pub ideal_calorific_high_lem : Hm ≤ heat_high → divisor_low ≤ D → ideal_calorific Hm D ≤ ideal_calorific_high
  ideal_calorific_high_lem h l = at_most (calorific_near (omega arith)) (omega arith)

  pub ideal_calorific_low : heat_low ≤ Hm → 0 < D → D ≤ divisor_high → calorific_low ≤ ideal_calorific Hm D
  ideal_calorific_low h p l = at_least (calorific_near p) (omega arith)

module _ (M : ℕ) where
  pub density_near : (D : ℕ) → 0 < D → Within half (ideal_density M D) ((M * 10132500) over D)
  density_near D h = near_half (M * 10132500) D h

  pub ideal_density_high : (D : ℕ) → M ≤ mass_high → divisor_low ≤ D → ideal_density M D ≤ ideal_high
  ideal_density_high D h l = at_most (density_near D (omega arith)) (omega arith)

  pub ideal_density_low : (D : ℕ) → mass_low ≤ M → 0 < D → D ≤ divisor_high → density_low ≤ ideal_density M D
  ideal_density_low D h p l = at_least (density_near D p) (omega arith)

  pub relative_near : (A : ℕ) → Within half (ideal_relative M A) ((M * A) over 289626000)
  relative_near A = near_half (M * A) 289626000 (omega arith)

  pub ideal_relative_high_lem : (A : ℕ) → M ≤ mass_high → A ≤ air_high → ideal_relative M A ≤ ideal_relative_high
  ideal_relative_high_lem A h l = at_most (relative_near A) (omega (arith, mul-le-mul h l))

  pub ideal_relative_low : (A : ℕ) → mass_low ≤ M → air_low ≤ A → relative_low ≤ ideal_relative M A
  ideal_relative_low A h l = at_least (relative_near A) (omega (arith, mul-le-mul h l))

-- Hm is at most 15 × M, so the ideal calorific value I is at most twice G, each in its unit; first over plain numbers, multiplied by D × A
twice : (Hm M D A I G : ℕ) → divisor_low * air_low ≤ D * A → Hm ≤ heat_by_mass * M → 2 * (I * D) ≤ 2 * (Hm * 1013250) + D
    → 2 * (M * A) ≤ 2 * (G * 289626000) + 289626000 → relative_low ≤ G → I * (D * A) ≤ 2 * G * (D * A)
twice Hm M D A I G both h i g low =
    omega (arith, mul-le-mul_right A i, mul-le-mul_right A h, g, mul-le-mul_left G both, mul-le-mul_right (D * A) low)

pub ideal_by_relative : (Hm M D A : ℕ) → Hm ≤ heat_by_mass * M → divisor_low ≤ D → air_low ≤ A → relative_low ≤ ideal_relative M A
    → ideal_calorific Hm D ≤ 2 * ideal_relative M A
ideal_by_relative Hm M D A h hD hA low =
    let both : divisor_low * air_low ≤ D * A = mul-le-mul hD hA in
    le_of_mul-le-mul_right {m = ideal_calorific Hm D} {n = 2 * ideal_relative M A} {k = D * A}
    (twice Hm M D A _ _ both h (omega (arith, (calorific_near Hm D (omega arith)).below)) (omega (arith, (relative_near M A).above)) low) (omega (arith, both))

-- S9 and Z
pub tenth_high : (S : ℤ) → nat_abs S ≤ summation_high → nat_abs (tenth S) ≤ 10 ^ 9
tenth_high S h = at_most (near_z_half S 10 (omega arith)) (omega arith)

pub compression_high : (square : ℕ) → near (10 ^ 18 - square) (10 ^ 9) ≤ 10 ^ 9
compression_high square = at_most (near_half (10 ^ 18 - square) (10 ^ 9) (omega arith)) (omega arith)

-- real values
module _ (ideal Z : ℕ) (low : compression_low ≤ Z) where
  real_near : Within half (real ideal Z) ((ideal * 10 ^ 9) over Z)
  real_near = near_half (ideal * 10 ^ 9) Z (omega arith)

  pub real_high : (b : ℕ) → 10 ^ 9 * ideal ≤ compression_low * b → real ideal Z ≤ b
  real_high b h = at_most real_near (omega (arith, mul-le-mul_left b low))

  pub real_low : Z ≤ 10 ^ 9 → (b : ℕ) → b ≤ ideal → b ≤ real ideal Z
  real_low high b h = at_least real_near (omega (arith, mul-le-mul_left b high))

-- and so Hs is at most twice d, but for 1
pub real_by_real : (I G Z : ℕ) → compression_low ≤ Z → I ≤ 2 * G → real I Z ≤ 2 * real G Z + 1
real_by_real I G Z low h =
    let doubled : 2 * real I Z ≤ 4 * real G Z + 3 =
    le_of_mul-le-mul_right {m = 2 * real I Z} {n = 4 * real G Z + 3} {k = Z}
    (omega (arith, (real_near I Z low).below, (real_near G Z low).above)) (omega arith) in
    omega arith

-- then W is at most a fifth of r, but for 6: over plain numbers, multiplied by r
fifth : (Hs d r W : ℕ) → 2 * (W * r) ≤ 2 * (Hs * 10 ^ 9) + r → Hs ≤ 2 * d + 1 → d * 10 ^ 10 < (r + 1) * (r + 1) → root_low ≤ r → 5 * W * r ≤ (r + 30) * r
fifth Hs d r W w h next low = omega (arith, w, h, next, mul-le-mul_left r low)

-- the index
module _ (d : ℕ) (d_low : relative_low ≤ d) (d_high : d ≤ relative_bound) where
  pub root_of_lem : Root (root_of d) (d * 10 ^ 10)
  root_of_lem = root_is (d * 10 ^ 10) (omega arith)

  pub root_low_lem : root_low ≤ root_of d
  root_low_lem = root_greatest root_of_lem root_low (omega arith)

  root_high_lem : root_of d < root_high
  root_high_lem = below_of_squares _ root_high (d * 10 ^ 10) root_of_lem.square (omega arith)

  pub wobbe_near : (Hs : ℕ) → Within half (wobbe Hs (root_of d)) ((Hs * 10 ^ 9) over root_of d)
  wobbe_near Hs = near_half (Hs * 10 ^ 9) (root_of d) (omega (arith, root_low_lem))

  pub wobbe_by_root : (Hs : ℕ) → Hs ≤ 2 * d + 1 → 5 * wobbe Hs (root_of d) ≤ root_of d + 30
  wobbe_by_root Hs h =
      le_of_mul-le-mul_right {m = 5 * wobbe Hs (root_of d)} {n = root_of d + 30} {k = root_of d}
      (fifth Hs d (root_of d) (wobbe Hs (root_of d)) (omega (arith, (wobbe_near Hs).below)) h root_of_lem.next root_low_lem) (omega (arith, root_low_lem))

  pub wobbe_high : (Hs : ℕ) → Hs ≤ 2 * d + 1 → wobbe Hs (root_of d) ≤ wobbe_bound
  wobbe_high Hs h = omega (arith, wobbe_by_root Hs h, root_high_lem)

  pub wobbe_low_lem : (Hs : ℕ) → calorific_low ≤ Hs → wobbe_low ≤ wobbe Hs (root_of d)
  wobbe_low_lem Hs h = at_least (wobbe_near Hs) (omega (arith, root_high_lem))

-- a value per kilogram
pub per_kilogram_high : {Hm M : ℕ} → 0 < M → Hm ≤ heat_by_mass * M → per_kilogram Hm M ≤ mass_calorific_bound
per_kilogram_high {Hm} {M} p h = at_most (near_half (Hm * 1000000) M p) (omega arith)

-- what `Quantity::real` asks, of an ideal value that is at most `most` and a compression factor that is not below that of an accepted record
pub real_fits : (most b : ℕ) {ideal z : ℕ} → ideal ≤ most → compression_low ≤ z → 10 ^ 9 * most ≤ compression_low * b → (0 < z) × (ideal * 10 ^ 9 ≤ b * z)
real_fits most b h low room = (omega arith, omega (arith, mul-le-mul_left b low))
