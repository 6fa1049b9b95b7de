-- The properties and the values per kilogram of every list of bytes, compared with those by the order that tried 9 before 10, 11 and 12:
-- they differ as reading the record does (crates/records/specs/LimitBeforeSum.antt).
use Rattle.std.specs.Prelude.{◌≡◌, List, ℕ}
use Rattle.records.specs.Order.{mapped}
use Rattle.records.specs.LimitBeforeSum.{record_limit_number, renumbered, former_reading_of}
use Rattle.properties.specs.Chain.{six_of, properties_of}
use Rattle.properties.specs.PerKilogram.{mass_basis_of, per_kilogram_of}

abbrev pub PropertiesChange : Type 0
PropertiesChange = (bs : List ℕ) → properties_of bs ≡ renumbered (record_limit_number bs) (mapped six_of (former_reading_of bs))

abbrev pub PerKilogramChange : Type 0
PerKilogramChange = (bs : List ℕ) → per_kilogram_of bs ≡ renumbered (record_limit_number bs) (mapped mass_basis_of (former_reading_of bs))
