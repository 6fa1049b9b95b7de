-- The properties and the values per kilogram of every list of bytes, compared with those by conditions that had no hydrogen class
-- (crates/records/specs/HydrogenClass.antt): with less than 900,000 of hydrogen they are the same, and so are those of every record that
-- was accepted.
use Rattle.std.specs.Prelude.{◌≡◌, false, List, ℕ}
use Rattle.records.specs.Order.{accepted, mapped}
use Rattle.records.specs.Format.{Contents}
use Rattle.records.specs.HydrogenClass.{record_in_class, classless_reading_of}
use Rattle.properties.specs.Chain.{six_of, properties_of}
use Rattle.properties.specs.PerKilogram.{mass_basis_of, per_kilogram_of}

abbrev pub PropertiesStay : Type 0
PropertiesStay = (bs : List ℕ) → record_in_class bs ≡ false → properties_of bs ≡ mapped six_of (classless_reading_of bs)

abbrev pub PerKilogramStays : Type 0
PerKilogramStays = (bs : List ℕ) → record_in_class bs ≡ false → per_kilogram_of bs ≡ mapped mass_basis_of (classless_reading_of bs)

abbrev pub AcceptedPropertiesStay : Type 0
AcceptedPropertiesStay = (bs : List ℕ) (k : Contents) → classless_reading_of bs ≡ accepted k → properties_of bs ≡ accepted (six_of k)

abbrev pub AcceptedPerKilogramStays : Type 0
AcceptedPerKilogramStays = (bs : List ℕ) (k : Contents) → classless_reading_of bs ≡ accepted k → per_kilogram_of bs ≡ accepted (mass_basis_of k)
