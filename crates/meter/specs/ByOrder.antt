-- The analysis call, for every meter, stream and record, by another order of a record's conditions: statements on former answers compare
-- with it.
use Rattle.std.specs.Prelude.{List, ◌∷◌, ◌++◌, ℕ}
use Rattle.records.specs.Order.{Order, first_of, Outcome, decided}
use Rattle.records.specs.Format.{combustion_in, metering_in}
use Rattle.meter.specs.declared.Meter.{Meter}
use Rattle.meter.specs.declared.Stream.{Stream}
use Rattle.meter.specs.State.{stream_at, with_stream}
use Rattle.meter.specs.Conditions.{stream_above, pair_differs, pair_order}
use Rattle.meter.specs.Calls.{analysed}

-- the order of the call, and what it gives
abbrev pub analysis_order_by : (List ℕ → Order) → ℕ → List ℕ → Stream → Order
analysis_order_by record_order k bs s = (13, stream_above k) ∷ record_order bs ++ pair_order (pair_differs s.analysis (combustion_in bs) (metering_in bs))

abbrev pub analysis_by : (List ℕ → Order) → Meter → ℕ → List ℕ → Outcome Meter
analysis_by record_order m k bs = decided (first_of (analysis_order_by record_order k bs (stream_at m k))) (with_stream m k (analysed (stream_at m k) bs))
