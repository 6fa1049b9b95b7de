-- The unrounded formula of document 01: the chain of specs/Chain.antt without near, each quantity but W a fraction of two whole
-- numbers. W, which needs a true root, is said squared in specs/Distances.antt.
use Rattle.std.specs.Prelude.{ℕ, ◌*◌, ◌-◌, ◌^◌, nat_abs}
use Rattle.rounding.specs.Fraction.{Fraction, ◌over◌, whole}
use Rattle.records.specs.Format.{Contents}
use Rattle.properties.specs.Chain as chain

-- 2. S/10, and Z; only the size of S matters
abbrev pub tenth : Fraction → Fraction
tenth S = S.num over (10 * S.den)

abbrev pub compression : Fraction → Fraction
compression S9 = (10 ^ 18 * (S9.den * S9.den) - S9.num * S9.num) over (10 ^ 9 * (S9.den * S9.den))

-- 3.
abbrev pub ideal_calorific : Fraction → ℕ → Fraction
ideal_calorific Hm D = (Hm.num * 1013250) over (Hm.den * D)

abbrev pub real : Fraction → Fraction → Fraction
real ideal Z = (ideal.num * 10 ^ 9 * Z.den) over (ideal.den * Z.num)

-- 4.
abbrev pub ideal_density : Fraction → ℕ → Fraction
ideal_density M D = (M.num * 10132500) over (M.den * D)

-- 5.
abbrev pub ideal_relative : Fraction → ℕ → Fraction
ideal_relative M A = (M.num * A) over (M.den * 289626000)

-- the unrounded chain of a composition, from its exact sums, which are whole numbers
module _ (k : Contents) where
  -- 1.
  abbrev pub HmSuperior : Fraction
  HmSuperior = whole (chain.HmSuperior k)

  abbrev pub HmInferior : Fraction
  HmInferior = whole (chain.HmInferior k)

  abbrev pub M : Fraction
  M = whole (chain.M k)

  abbrev pub S : Fraction
  S = whole (nat_abs (chain.S k))

  -- 2. unit 10^-9
  abbrev pub Z : Fraction
  Z = compression (tenth S)

  -- 3. unit J/m³
  abbrev pub Hs : Fraction
  Hs = real (ideal_calorific HmSuperior (chain.D k)) Z

  abbrev pub Hi : Fraction
  Hi = real (ideal_calorific HmInferior (chain.D k)) Z

  -- 4. unit 10^-8 kg/m³
  abbrev pub rho : Fraction
  rho = real (ideal_density M (chain.D k)) Z

  -- 5. unit 10^-8
  abbrev pub G : Fraction
  G = ideal_relative M (chain.A k)

  abbrev pub d : Fraction
  d = real G Z
