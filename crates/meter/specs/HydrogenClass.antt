-- The analysis call, for every meter, stream and record, compared with what it gave by conditions that had no hydrogen class
-- (crates/records/specs/HydrogenClass.antt): with less than 900,000 of hydrogen it is the same, and so is every one that was accepted.
use Rattle.std.specs.Prelude.{◌≡◌, false, List, ℕ}
use Rattle.records.specs.Order.{accepted}
use Rattle.records.specs.HydrogenClass.{classless_record_order, record_in_class}
use Rattle.meter.specs.declared.Meter.{Meter}
use Rattle.meter.specs.Calls.{analysis_of}
use Rattle.meter.specs.ByOrder.{analysis_by}

abbrev pub AnalysisStays : Type 0
AnalysisStays = (m : Meter) (k : ℕ) (bs : List ℕ) → record_in_class bs ≡ false → analysis_of m k bs ≡ analysis_by classless_record_order m k bs

abbrev pub AcceptedAnalysisStays : Type 0
AcceptedAnalysisStays = (m after : Meter) (k : ℕ) (bs : List ℕ) → analysis_by classless_record_order m k bs ≡ accepted after → analysis_of m k bs ≡ accepted after
