-- An answer made from what reading gives stays as that does.
use mathlib.Core.Path.{ap}
use Rattle.records.specs.Order.{mapped}
use Rattle.records.proofs.HydrogenClass.{reading_stays, accepted_reading_stays}
use Rattle.properties.specs.Chain.{six_of}
use Rattle.properties.specs.PerKilogram.{mass_basis_of}
use Rattle.properties.specs.HydrogenClass.{PropertiesStay, PerKilogramStays, AcceptedPropertiesStay, AcceptedPerKilogramStays}

pub properties_stay : PropertiesStay
properties_stay bs e = ap (mapped six_of) (reading_stays bs e)

pub per_kilogram_stays : PerKilogramStays
per_kilogram_stays bs e = ap (mapped mass_basis_of) (reading_stays bs e)

pub accepted_properties_stay : AcceptedPropertiesStay
accepted_properties_stay bs k e = ap (mapped six_of) (accepted_reading_stays bs k e)

pub accepted_per_kilogram_stays : AcceptedPerKilogramStays
accepted_per_kilogram_stays bs k e = ap (mapped mass_basis_of) (accepted_reading_stays bs k e)
