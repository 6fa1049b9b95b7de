-- The claim is not empty: there is a fresh meter, and every list of calls has a run from every meter.
use mathlib.Core.Path.{◌≡◌, refl, sym, ap, ◌∙◌}
use mathlib.Core.Bool.{true}
use mathlib.Core.List.{List, [], ◌∷◌, ◌++◌}
use Prim.Native.Nat.{ℕ}
use lib.ListN.{length}
use denote.Ref.{Bor, MutBor}
use Rattle.records.specs.Order.{Order, first_of, decided, otherwise, mapped}
use Rattle.records.specs.Refusals.{Verdict}
use Rattle.records.specs.Answers.{Gives}
use Rattle.properties.specs.declared.quantities.Quantity.{Quantity}
use Rattle.properties.specs.Quantities.{calorific_bound}
use Rattle.records.proofs.OrderLaws.{mapped_decided}
use Rattle.day_file.specs.Format.{blocks_of}
use Rattle.meter.specs.declared.day.Counts.{Counts}
use Rattle.meter.specs.declared.Meter.{Meter}
use Rattle.meter.specs.declared.StreamTotals.{StreamTotals}
use Rattle.meter.specs.State.{fresh_meter, stream_at, with_stream}
use Rattle.meter.specs.Conditions.{analysis_order, metering_order, totals_order, mean_order, day_order}
use Rattle.meter.specs.Calls.{analysed, metered, totals_of, mean_in}
use Rattle.meter.specs.Days.{Day, meter_day, day_of, left_in, counts_meaning, GivesDay}
use Rattle.meter.specs.Answers.{totals_meaning, mean_meaning}
use Rattle.tally.specs.Tally.{Energy, Ask, analysis, metering, totals, mean, on, Answer, Listed, single, day, counts_as, single_calls}
use Rattle.tally.specs.Run.{DayAnswer, counted_of, TotalsAnswer, MeanAnswer, Step, by_analysis, by_metering, by_day, by_totals, by_mean, listed_by, ended, after}
use Rattle.tally.specs.Demand.{EveryListHasRun, HasFresh}
use Rattle.tally.proofs.Answers.{known, answer_with, answered_by, verdict_with, gives_by}
use Rattle.tally.proofs.Energies.{register_of, mean_for, mean_returned}

pub has_fresh : HasFresh
has_fresh = record { meter = fresh_meter; returns = λ p. refl }

-- a reference to something, and one that may change it
abbrev pub to : {A : Type 0} → A → Bor A
to a = record { ref_ptr = (0, 0); now = a }

abbrev pub to_mut : {A : Type 0} → A → MutBor A
to_mut a = record { ref_ptr = (0, 0); ghost_name = 0; now = a }

-- the answer of each reading, and the verdict of each call that may change the meter
pub totals_with : Meter → ℕ → TotalsAnswer
totals_with m k = answer_with (first_of (totals_order k)) (stream_at m k).totals

pub totals_means : (m : Meter) (k : ℕ) → totals_meaning (totals_with m k) ≡ totals_of m k
unfolding totals_with
totals_means m k = answered_by (λ (t : StreamTotals). t) (stream_at m k).totals (totals_order k) refl

pub mean_with : Energy → Meter → ℕ → MeanAnswer
mean_with e m k =
    let s = stream_at m k in
    answer_with (first_of (mean_order k s)) (record { value = mean_in (register_of e s.totals) s.totals.volume })

pub mean_means : (e : Energy) (m : Meter) (k : ℕ) → mean_meaning (mean_with e m k) ≡ mean_for e k m
unfolding mean_with
mean_means e m k =
    let s = stream_at m k in
    answered_by (λ (h : Quantity calorific_bound). h.value) (record { value = mean_in (register_of e s.totals) s.totals.volume }) (mean_order k s) refl

abbrev pub verdict_by : Order → Verdict
verdict_by o = verdict_with (first_of o)

-- what a call with the order o gives, where it would leave the meter new
pub call_gives : (o : Order) → known o ≡ true → (m new : Meter) → Gives (decided (first_of o) new) m (verdict_by o) (otherwise m (decided (first_of o) new))
call_gives o h m new = gives_by o h new m refl

record HasStep (m : Meter) (l : Listed) : Type 0 where
  pub answers : List Answer
  pub meter : Meter
  pub step : Step m (counts_as l) answers meter
  pub as_listed : listed_by step ≡ l

-- the answer to a day file, and the meter after it
pub day_with : Meter → ℕ → List ℕ → List ℕ → DayAnswer
day_with m k file vs = answer_with (first_of (day_order k file (length vs))) (meter_day k m (blocks_of file) vs).counts

abbrev pub day_left : Meter → ℕ → List ℕ → List ℕ → Meter
day_left m k file vs = otherwise m (left_in (day_of m k file vs))

pub day_with_means : (m : Meter) (k : ℕ) (file vs : List ℕ) →
    mapped counted_of (counts_meaning (day_with m k file vs)) ≡ decided (first_of (day_order k file (length vs))) (counted_of (meter_day k m (blocks_of file) vs).counts)
unfolding day_with
day_with_means m k file vs =
    let o = day_order k file (length vs) in
    let c = (meter_day k m (blocks_of file) vs).counts in
    ap (mapped counted_of) (answered_by (λ (x : Counts). x) c o refl) ∙ mapped_decided counted_of (first_of o) c

pub day_gives : (m : Meter) (k : ℕ) (file vs : List ℕ) → GivesDay (day_of m k file vs) m (day_with m k file vs) (day_left m k file vs)
unfolding day_with
day_gives m k file vs =
    let o = day_order k file (length vs) in
    let d = meter_day k m (blocks_of file) vs in
    record { counts = answered_by (λ (c : Counts). c) d.counts o refl ∙ sym (mapped_decided (λ (e : Day Meter). e.counts) (first_of o) d); stands = refl }

has_single : (m : Meter) (k : ℕ) (ask : Ask) → HasStep m (single (on k ask))
has_single m k (analysis bs) =
    let o = analysis_order k bs (stream_at m k) in
    let new = with_stream m k (analysed (stream_at m k) bs) in
    record { answers = _; meter = _; step = by_analysis ([], ([], tt)) (to_mut m) k (to bs) (verdict_by o) (to_mut (otherwise m (decided (first_of o) new))) (λ p. call_gives o refl m new); as_listed = refl }
has_single m k (metering v) =
    let o = metering_order k v (stream_at m k) in
    let new = with_stream m k (metered (stream_at m k) v) in
    record { answers = _; meter = _; step = by_metering ([], tt) (to_mut m) k v (verdict_by o) (to_mut (otherwise m (decided (first_of o) new))) (λ p. call_gives o refl m new); as_listed = refl }
has_single m k totals = record { answers = _; meter = _; step = by_totals ([], tt) (to m) k (totals_with m k) (λ p. totals_means m k); as_listed = refl }
has_single m k (mean e) =
    record { answers = _; meter = _; step = by_mean e ([], tt) (to m) k (mean_with e m k) (mean_returned ([], tt) (to m) k e _ (mean_means e m k)); as_listed = refl }

has_step : (m : Meter) (l : Listed) → HasStep m l
has_step m (single c) = has_single m c.stream c.ask
has_step m (day k file vs) =
    record { answers = _; meter = _; step = by_day ([], ([], ([], tt))) (to_mut m) k (to file) (to vs) (day_with m k file vs) (to_mut (day_left m k file vs)) (λ p. day_gives m k file vs); as_listed = refl }

pub every_list_has_run : EveryListHasRun
every_list_has_run m [] = record { answers = []; meter = m; run = ended m; as_listed = refl }
every_list_has_run m (l ∷ ls) =
    let s = has_step m l in
    let r = every_list_has_run s.meter ls in
    record {
      answers = s.answers ++ r.answers;
      meter = r.meter;
      run = after m s.meter r.meter (counts_as l) (single_calls ls) s.answers r.answers s.step r.run;
      as_listed = cc (s.as_listed, r.as_listed);
    }
