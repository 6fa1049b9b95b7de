-- From fractions to properties: the six steps of document 01, in its order, with its letters and constants. First the formula of
-- each step, over the numbers that it takes; then the chain of a composition.
use Rattle.std.specs.Prelude.{◌≡◌, cond, List, ℕ, ◌*◌, ◌-◌, ◌^◌, eqb, ℤ, nat_abs, take}
use Rattle.rounding.specs.Near.{near, near_z}
use Rattle.rounding.specs.Root.{root}
use Rattle.components.specs.Table.{molar_mass, summation, superior, inferior}
use Rattle.components.specs.Composition.{over_lines}
use Rattle.records.specs.Order.{Outcome, mapped}
use Rattle.records.specs.Format.{Contents}
use Rattle.records.specs.Calls.{reading_of, enough}

-- a number for 0, 15 or 20 °C metering
abbrev pub for_metering : ℕ → ℕ → ℕ → ℕ → ℕ
for_metering at0 at15 at20 m = cond (eqb m 0) at0 (cond (eqb m 15) at15 at20)

-- T, unit 0.01 K
abbrev pub temperature : ℕ → ℕ
temperature = for_metering 27315 28815 29315

-- D
abbrev pub divisor : ℕ → ℕ
divisor T = 831451 * T

-- the place of a combustion temperature among 25, 20, 15 and 0 °C, and of a metering temperature among 0, 15 and 20 °C
abbrev pub combustion_place : ℕ → ℕ
combustion_place c = cond (eqb c 25) 0 (cond (eqb c 20) 1 (cond (eqb c 15) 2 3))

abbrev pub metering_place : ℕ → ℕ
metering_place = for_metering 0 1 2

-- 2. S9, and Z, unit 10^-9
abbrev pub tenth : ℤ → ℤ
tenth S = near_z S 10

abbrev pub compression : ℤ → ℕ
compression S9 = near (10 ^ 18 - nat_abs S9 * nat_abs S9) (10 ^ 9)

-- 3. The ideal calorific value, and the real value of a quantity, which steps 4 and 5 use too
abbrev pub ideal_calorific : ℕ → ℕ → ℕ
ideal_calorific Hm D = near (Hm * 1013250) D

abbrev pub real : ℕ → ℕ → ℕ
real ideal Z = near (ideal * 10 ^ 9) Z

-- 4. The ideal density, unit 10^-8 kg/m³
abbrev pub ideal_density : ℕ → ℕ → ℕ
ideal_density M D = near (M * 10132500) D

-- 5. A, the compression factor of air, unit 10^-5, and G
abbrev pub air_factor : ℕ → ℕ
air_factor = for_metering 99941 99958 99963

abbrev pub ideal_relative : ℕ → ℕ → ℕ
ideal_relative M A = near (M * A) 289626000

-- 6. r, the greatest whole number with r² ≤ d × 10^10, and W
abbrev pub root_of : ℕ → ℕ
root_of d = root (d * 10 ^ 10)

abbrev pub wobbe : ℕ → ℕ → ℕ
wobbe Hs r = near (Hs * 10 ^ 9) r

-- the chain of a composition: a pair, line numbers and fractions
module _ (k : Contents) where
  unfoldable pub T : ℕ
  T = temperature k.metering

  unfoldable pub D : ℕ
  D = divisor T

  -- a sum runs over all lines
  abbrev pub sum : ℕ → ℤ
  sum column = over_lines column 55 k.lines k.fractions

  -- 1. Hm, superior and inferior, unit 10^-9 kJ/mol, and M, unit 10^-10 kg/kmol, as sizes: no such sum is below 0 (`Amounts`)
  unfoldable pub HmSuperior : ℕ
  HmSuperior = nat_abs (sum (superior (combustion_place k.combustion)))

  unfoldable pub HmInferior : ℕ
  HmInferior = nat_abs (sum (inferior (combustion_place k.combustion)))

  unfoldable pub M : ℕ
  M = nat_abs (sum molar_mass)

  -- S, unit 10^-10, signed
  unfoldable pub S : ℤ
  S = sum (summation (metering_place k.metering))

  -- 2.
  unfoldable pub S9 : ℤ
  S9 = tenth S

  unfoldable pub Z : ℕ
  Z = compression S9

  -- 3. unit J/m³
  unfoldable pub Hs : ℕ
  Hs = real (ideal_calorific HmSuperior D) Z

  unfoldable pub Hi : ℕ
  Hi = real (ideal_calorific HmInferior D) Z

  -- 4. unit 10^-8 kg/m³
  unfoldable pub rho : ℕ
  rho = real (ideal_density M D) Z

  -- 5. unit 10^-8
  unfoldable pub A : ℕ
  A = air_factor k.metering

  unfoldable pub G : ℕ
  G = ideal_relative M A

  unfoldable pub d : ℕ
  d = real G Z

  -- 6. unit J/m³
  unfoldable pub r : ℕ
  r = root_of d

  unfoldable pub W : ℕ
  W = wobbe Hs r

-- the six properties
pub record Six : Type 0 where
  pub Z : ℕ
  pub Hs : ℕ
  pub Hi : ℕ
  pub rho : ℕ
  pub d : ℕ
  pub W : ℕ

abbrev pub six_of : Contents → Six
six_of k = record { Z = Z k; Hs = Hs k; Hi = Hi k; rho = rho k; d = d k; W = W k }

-- the properties of a list of bytes: those of the record's contents, or the number that reading it gives
abbrev pub properties_of : List ℕ → Outcome Six
properties_of bs = mapped six_of (reading_of bs)

-- the first bytes of an input decide its properties, as they decide what reading gives
abbrev pub FirstBytesDecideProperties : Type 0
FirstBytesDecideProperties = (bs : List ℕ) → properties_of (take enough bs) ≡ properties_of bs
