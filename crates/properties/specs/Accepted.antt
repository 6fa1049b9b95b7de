-- What is shown of every accepted record, and what its sums say of its properties.
use Rattle.std.specs.Prelude.{◌≡◌, List, ℕ, ◌*◌, ◌^◌, ◌≤◌, ℤ, pos, nat_abs}
use Rattle.rounding.specs.Root.{Root}
use Rattle.components.specs.Table.{molar_mass, superior, inferior}
use Rattle.records.specs.Order.{accepted}
use Rattle.records.specs.Format.{Contents}
use Rattle.records.specs.Calls.{reading_of}
use Rattle.records.specs.Accepted.{Acceptable}
use Rattle.properties.specs.Chain.{combustion_place, sum, HmSuperior, HmInferior, M, S, S9, d, r, Six, six_of, properties_of}
use Rattle.properties.specs.Bounds.{Proper, DensityByAir}
use Rattle.properties.specs.Distances.{Distances}
use Rattle.properties.specs.PerKilogram.{mass_basis_of, PerKilogramShown}

-- Hm and M are the sums themselves, since none is below 0
pub record Amounts (k : Contents) : Type 0 where
  pub HmSuperior : pos (HmSuperior k) ≡ sum k (superior (combustion_place k.combustion))
  pub HmInferior : pos (HmInferior k) ≡ sum k (inferior (combustion_place k.combustion))
  pub M : pos (M k) ≡ sum k molar_mass

-- Whole numbers stop at 0 where more is taken away than there is. In step 2 nothing is cut off so: S9² is at most the 10^18 that it is
-- taken from, and S² at most 100 × 10^18, as the unrounded formula has it for (S/10)².
pub record Squares (k : Contents) : Type 0 where
  pub rounded : nat_abs (S9 k) * nat_abs (S9 k) ≤ 10 ^ 18
  pub unrounded : nat_abs (S k) * nat_abs (S k) ≤ 100 * 10 ^ 18

-- numbers that are the sums of a composition, and a metering temperature that is its own
pub record SumsOf (k : Contents) (superior inferior mass : ℕ) (summation : ℤ) (metering : ℕ) : Type 0 where
  pub superior_is : superior ≡ HmSuperior k
  pub inferior_is : inferior ≡ HmInferior k
  pub mass_is : mass ≡ M k
  pub summation_is : summation ≡ S k
  pub metering_is : metering ≡ k.metering

-- those of a composition that no condition refuses
pub record Summed (superior inferior mass : ℕ) (summation : ℤ) (metering : ℕ) : Type 0 where
  pub gas : Contents
  pub acceptable : Acceptable gas
  pub sums : SumsOf gas superior inferior mass summation metering

-- six properties that are those of every composition with these sums
abbrev pub SixOfSums : ℕ → ℕ → ℕ → ℤ → ℕ → Six → Type 0
SixOfSums superior inferior mass summation metering p = (k : Contents) → SumsOf k superior inferior mass summation metering → p ≡ six_of k

-- what is shown of a record that reads as k: the call answers its properties, from its sums; steps 2 and 6 mean what they say, with r
-- the greatest whole number with r² ≤ d × 10^10; none passes its ceiling or is below its floor, rho is d times the density of air, and
-- each is within its distance; and the same of the values per kilogram
pub record Shown (bs : List ℕ) (k : Contents) : Type 0 where
  pub answer : properties_of bs ≡ accepted (six_of k)
  pub amounts : Amounts k
  pub squares : Squares k
  pub root : Root (r k) (d k * 10 ^ 10)
  pub proper : Proper (six_of k)
  pub air : DensityByAir k.metering (six_of k)
  pub within : Distances k (six_of k)
  pub per_kilogram : PerKilogramShown bs k (mass_basis_of k)

abbrev pub EveryAcceptedRecord : Type 0
EveryAcceptedRecord = (bs : List ℕ) (k : Contents) → reading_of bs ≡ accepted k → Shown bs k
