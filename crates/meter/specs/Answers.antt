-- The answers of the readings: document 01's number, or the values, for each case. A call that may change the meter answers a verdict
-- of crates/records.
use Rattle.std.specs.Prelude.{ℕ, Result}
use Rattle.records.specs.declared.refusal.Refusal.{Refusal}
use Rattle.records.specs.Order.{Outcome}
use Rattle.records.specs.Refusals.{outcome}
use Rattle.properties.specs.declared.quantities.Quantity.{Quantity}
use Rattle.properties.specs.Quantities.{calorific_bound}
use Rattle.meter.specs.declared.StreamTotals.{StreamTotals}

abbrev pub totals_meaning : Result StreamTotals Refusal → Outcome StreamTotals
totals_meaning = outcome (λ t. t)

abbrev pub mean_meaning : Result (Quantity calorific_bound) Refusal → Outcome ℕ
mean_meaning = outcome (λ h. h.value)
