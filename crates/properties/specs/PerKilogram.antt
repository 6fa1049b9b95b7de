-- Calorific values per kilogram, on a mass basis, by request W-202 of document 02: superior and inferior, unit 10 J/kg, from Hm and M of
-- step 1. Of the two temperatures only the combustion one matters: neither sum has a number of the metering temperature.
use Rattle.std.specs.Prelude.{◌≡◌, List, ℕ, ◌*◌, ◌≤◌, take}
use Rattle.rounding.specs.Near.{near}
use Rattle.rounding.specs.Fraction.{Fraction, Within, ◌over◌, half}
use Rattle.records.specs.Order.{Outcome, accepted, mapped}
use Rattle.records.specs.Format.{Contents, contents}
use Rattle.records.specs.Calls.{reading_of, enough}
use Rattle.properties.specs.Chain.{HmSuperior, HmInferior, M}
use Rattle.properties.specs.Unrounded as unrounded
use Rattle.properties.specs.Quantities.{mass_calorific_bound}

-- near(Hm × 1,000,000 / M)
abbrev pub per_kilogram : ℕ → ℕ → ℕ
per_kilogram Hm M = near (Hm * 1000000) M

-- the same without near
abbrev pub unrounded_per_kilogram : Fraction → Fraction → Fraction
unrounded_per_kilogram Hm M = (Hm.num * 1000000 * M.den) over (Hm.den * M.num)

-- the two values
pub record MassBasis : Type 0 where
  pub superior : ℕ
  pub inferior : ℕ

-- those of a composition
abbrev pub mass_basis_of : Contents → MassBasis
mass_basis_of k = record { superior = per_kilogram (HmSuperior k) (M k); inferior = per_kilogram (HmInferior k) (M k) }

-- those of a list of bytes: of the record's contents, or the number that reading it gives
abbrev pub per_kilogram_of : List ℕ → Outcome MassBasis
per_kilogram_of bs = mapped mass_basis_of (reading_of bs)

-- the first bytes of an input decide them, as they decide what reading gives
abbrev pub FirstBytesDecidePerKilogram : Type 0
FirstBytesDecidePerKilogram = (bs : List ℕ) → per_kilogram_of (take enough bs) ≡ per_kilogram_of bs

-- the most that a value differs from the unrounded quotient: half of its unit, 5 J/kg, since it is rounded once
abbrev pub per_kilogram_distance : Fraction
per_kilogram_distance = half

-- no smaller distance is true: one that the superior value of every accepted record keeps is not below it (`half_gas` in Cases.antt)
abbrev pub NoSmallerDistance : Type 0
NoSmallerDistance =
    (t : Fraction) →
    ((bs : List ℕ) (k : Contents) → reading_of bs ≡ accepted k →
    Within t (mass_basis_of k).superior (unrounded_per_kilogram (unrounded.HmSuperior k) (unrounded.M k))) → per_kilogram_distance.num * t.den ≤ t.num * per_kilogram_distance.den

-- what is shown of a record that reads as k: the call answers its two values, neither passes its ceiling, the inferior one is not above
-- the superior one, and each is within its distance
pub record PerKilogramShown (bs : List ℕ) (k : Contents) (v : MassBasis) : Type 0 where
  pub answer : per_kilogram_of bs ≡ accepted v
  pub superior_bounded : v.superior ≤ mass_calorific_bound
  pub inferior_bounded : v.inferior ≤ mass_calorific_bound
  pub order : v.inferior ≤ v.superior
  pub superior_within : Within per_kilogram_distance v.superior (unrounded_per_kilogram (unrounded.HmSuperior k) (unrounded.M k))
  pub inferior_within : Within per_kilogram_distance v.inferior (unrounded_per_kilogram (unrounded.HmInferior k) (unrounded.M k))

-- two accepted records that are alike but for the metering temperature have the same two values
abbrev pub MeteringDoesNotMatter : Type 0
MeteringDoesNotMatter =
    (bs cs : List ℕ) (combustion m n : ℕ) (ls xs : List ℕ) → reading_of bs ≡ accepted (contents combustion m ls xs) →
    reading_of cs ≡ accepted (contents combustion n ls xs) → per_kilogram_of bs ≡ per_kilogram_of cs
