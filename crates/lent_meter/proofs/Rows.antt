-- What stands in a row that holds a stream, and the row after each call that may change it.
use mathlib.Core.Path.{◌≡◌, refl, sym, ap, ◌∙◌}
use mathlib.Core.Bool.{Bool}
use mathlib.Core.List.{List}
use Prim.Native.Nat.{ℕ}
use Rattle.std.specs.Result.{IsErrAnd}
use Rattle.records.specs.declared.refusal.Refusal.{Refusal}
use Rattle.records.specs.Refusals.{Verdict, number, number_in}
use Rattle.records.specs.Answers.{Returns}
use Rattle.records.specs.Order.{Order, first_of, mapped}
use Rattle.records.specs.Format.{combustion_in, metering_in}
use Rattle.records.specs.Conditions.{record_order}
use Rattle.records.proofs.OrderLaws.{number_passed, some_number, stops, passes}
use Rattle.std.specs.Prelude.{Option, Some, None}
use Rattle.meter.specs.declared.Gas.{Gas}
use Rattle.meter.specs.declared.StreamTotals.{StreamTotals}
use Rattle.meter.specs.declared.Stream.{Stream}
use Rattle.meter.specs.Conditions.{pair_differs, pair_order, stream_analysis_order}
use Rattle.meter.specs.Calls.{analysed, stream_analysis}
use Rattle.lent_meter.specs.Words.{packed_totals, analysis_words, packed_stream}
use Rattle.lent_meter.specs.Check.{words_differ}
use Rattle.lent_meter.proofs.Outcomes.{number_refuses}

-- the words of an analysis, for each case of it
module _ (t : StreamTotals) where
  pair_words : (a : Option Gas) (c m : ℕ) → words_differ (analysis_words a (packed_totals t)) c m ≡ pair_differs a c m
  pair_words None c m = refl
  pair_words (Some gas) c m = refl

-- the number of an analysis, 13 apart, and the row with the record's gas, from what the code finds of the record
module _ {row : List ℕ} (s : Stream) (holds : row ≡ packed_stream s) (bs : List ℕ) where
  abbrev fourteen : Order
  fourteen = pair_order (pair_differs s.analysis (combustion_in bs) (metering_in bs))

  pub record_refused : (v : Verdict) (e : Refusal) → IsErrAnd v (λ y. y ≡ e) → number e ≡ first_of (record_order bs) →
      Returns (mapped packed_stream (stream_analysis s bs)) row (number_in v) row
  record_refused v e is h =
      let passed = number_passed v e is in
      let some : number_in v ≡ 0 → ⊥ = λ z. some_number e (sym passed ∙ z) in
      number_refuses packed_stream (analysed s bs) row (stops (record_order bs) fourteen (passed ∙ h) some) some refl

  module _ {c m : ℕ} (first : c ≡ combustion_in bs) (second : m ≡ metering_in bs) where
    pub record_accepted : first_of (record_order bs) ≡ 0 → {b : Bool} → words_differ row c m ≡ b → first_of (pair_order b) ≡ first_of (stream_analysis_order bs s)
    record_accepted clear h =
        let differs : words_differ row c m ≡ pair_differs s.analysis (combustion_in bs) (metering_in bs) =
        (λ i. words_differ (holds i) (first i) (second i)) ∙ pair_words s.totals s.analysis (combustion_in bs) (metering_in bs) in
        passes (record_order bs) fourteen tt refl clear (ap (λ (x : Bool). first_of (pair_order x)) (sym h ∙ differs))
