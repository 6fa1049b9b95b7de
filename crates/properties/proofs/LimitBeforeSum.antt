-- An answer made from what reading gives changes as that does.
use mathlib.Core.Path.{◌≡◌, refl, ap, ◌∙◌}
use Prim.Native.Nat.{ℕ}
use Rattle.records.specs.Order.{Outcome, refused, accepted, mapped}
use Rattle.records.specs.LimitBeforeSum.{record_limit_number, renumbered, former_reading_of}
use Rattle.records.proofs.LimitBeforeSum.{reading_change}
use Rattle.properties.specs.Chain.{six_of}
use Rattle.properties.specs.PerKilogram.{mass_basis_of}
use Rattle.properties.specs.LimitBeforeSum.{PropertiesChange, PerKilogramChange}

mapped_change : {A B : Type 0} (f : A → B) (limit : ℕ) (o : Outcome A) → mapped f (renumbered limit o) ≡ renumbered limit (mapped f o)
mapped_change f limit (refused n) = refl
mapped_change f limit (accepted a) = refl

pub properties_change : PropertiesChange
properties_change bs = ap (mapped six_of) (reading_change bs) ∙ mapped_change six_of (record_limit_number bs) (former_reading_of bs)

pub per_kilogram_change : PerKilogramChange
per_kilogram_change bs = ap (mapped mass_basis_of) (reading_change bs) ∙ mapped_change mass_basis_of (record_limit_number bs) (former_reading_of bs)
