-- The analysis call, for every meter, stream and record, compared with what it gave by the order that tried 9 before 10, 11 and 12
-- (crates/records/specs/LimitBeforeSum.antt): only refusals by 9 where one of 10 to 12 holds too differ. What is accepted, and the meter
-- after it, are the same.
use Rattle.std.specs.Prelude.{◌≡◌, List, [], ◌∷◌, ◌++◌, ℕ}
use Rattle.records.specs.Order.{Order, numbers_of, condition_of, Outcome}
use Rattle.records.specs.LimitBeforeSum.{former_record_order, former_record_numbers, record_limit_number, renumbered}
use Rattle.meter.specs.declared.Meter.{Meter}
use Rattle.meter.specs.declared.Stream.{Stream}
use Rattle.meter.specs.Conditions.{analysis_order}
use Rattle.meter.specs.Calls.{analysis_of}
use Rattle.meter.specs.ByOrder.{analysis_order_by, analysis_by}

-- the former order, and what the call gave by it
abbrev pub former_analysis_order : ℕ → List ℕ → Stream → Order
former_analysis_order = analysis_order_by former_record_order

abbrev pub former_analysis_of : Meter → ℕ → List ℕ → Outcome Meter
former_analysis_of = analysis_by former_record_order

-- it tried the numbers of a record upward between 13 and 14, and each with the condition that it has now
abbrev pub FormerAnalysisNumbers : Type 0
FormerAnalysisNumbers = (k : ℕ) (bs : List ℕ) (s : Stream) → numbers_of (former_analysis_order k bs s) ≡ 13 ∷ former_record_numbers ++ (14 ∷ [])

abbrev pub FormerAnalysisConditions : Type 0
FormerAnalysisConditions =
    (k : ℕ) (bs : List ℕ) (s : Stream) (n : ℕ) → condition_of n (former_analysis_order k bs s) ≡ condition_of n (analysis_order k bs s)

abbrev pub AnalysisChange : Type 0
AnalysisChange = (m : Meter) (k : ℕ) (bs : List ℕ) → analysis_of m k bs ≡ renumbered (record_limit_number bs) (former_analysis_of m k bs)
