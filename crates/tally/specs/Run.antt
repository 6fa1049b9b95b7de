-- What the functions of crates/meter did on a list of calls: each step is what the contract of the function promises of the call. `Asked`
-- is what the contract requires and `Learnt` what it ensures, both as the checker reads them from the code.
use Rattle.std.specs.Prelude.{List, [], ◌∷◌, ◌++◌, ℕ, Result}
use contract.Lifetimes.{Lfts}
use Rattle.std.specs.Borrow.{Bor, MutBor}
use Rattle.records.specs.declared.refusal.Refusal.{Refusal}
use Rattle.records.specs.Order.{Outcome, first_of, decided, otherwise, mapped}
use Rattle.records.specs.Refusals.{Verdict}
use Rattle.records.specs.Answers.{meaning}
use Rattle.day_file.specs.Format.{blocks_of}
use Rattle.properties.specs.declared.quantities.Quantity.{Quantity}
use Rattle.properties.specs.Quantities.{calorific_bound}
use Rattle.meter.specs.declared.Meter.{Meter}
use Rattle.meter.specs.declared.Energy.TheVariants as energy
use Rattle.meter.specs.declared.Energy.{Energy as MeterEnergy}
use Rattle.meter.specs.declared.day.Counts.{Counts}
use Rattle.meter.specs.declared.Register.{Register}
use Rattle.meter.specs.declared.StreamTotals.{StreamTotals}
use Rattle.meter.specs.Calls.{analysis_of, metering_of, after_analysis, after_metering}
use Rattle.meter.specs.Days.{counts_meaning}
use Rattle.meter.specs.Answers.{totals_meaning, mean_meaning}
use Rattle.meter.proofs.Meter.new.Reads as fresh-reads
use Rattle.meter.proofs.Meter.analysis.Reads as analysis-reads
use Rattle.meter.proofs.Meter.metering.Reads as metering-reads
use Rattle.meter.proofs.Meter.day.Reads as day-reads
use Rattle.meter.proofs.Meter.totals.Reads as totals-reads
use Rattle.meter.proofs.Meter.mean.Reads as mean-reads
use Rattle.tally.specs.Tally.{Energy, superior, inferior, analysis, metering, totals, mean, Call, on, Parts, Given, done, totals_are, mean_is, Answer, day_order_of, day_calls, Listed, single, day, Counted, Reply, answered, counted}

-- what a day file and the readings answer
abbrev pub DayAnswer : Type 0
DayAnswer = Result Counts Refusal

abbrev pub TotalsAnswer : Type 0
TotalsAnswer = Result StreamTotals Refusal

abbrev pub MeanAnswer : Type 0
MeanAnswer = Result (Quantity calorific_bound) Refusal

-- an energy of a stream as the meter names it
abbrev pub named : Energy → MeterEnergy
named superior = energy.Superior
named inferior = energy.Inferior

-- what the contract of each function requires
abbrev pub AnalysisAsks : Lfts 2 → MutBor Meter → ℕ → Bor (List ℕ) → Type 0
AnalysisAsks κs w k b = analysis-reads.Asked κs (w, (k, (b, tt)))

abbrev pub MeteringAsks : Lfts 1 → MutBor Meter → ℕ → ℕ → Type 0
MeteringAsks κs w k v = metering-reads.Asked κs (w, (k, (v, tt)))

abbrev pub DayAsks : Lfts 3 → MutBor Meter → ℕ → Bor (List ℕ) → Bor (List ℕ) → Type 0
DayAsks κs w k f v = day-reads.Asked κs (w, (k, (f, (v, tt))))

abbrev pub TotalsAsks : Lfts 1 → Bor Meter → ℕ → Type 0
TotalsAsks κs w k = totals-reads.Asked κs (w, (k, tt))

abbrev pub MeanAsks : Energy → Lfts 1 → Bor Meter → ℕ → Type 0
MeanAsks e κs w k = mean-reads.Asked κs (w, (k, (named e, tt)))

-- what is known of a call of each function: where its contract's `requires` holds, its `ensures` does. What stands before the result is as
-- it was at the entry, and behind it as it was at the exit
abbrev pub FreshReturns : Meter → Type 0
FreshReturns m = fresh-reads.Asked tt tt → fresh-reads.Learnt tt tt m tt

abbrev pub AnalysisReturns : Lfts 2 → MutBor Meter → ℕ → Bor (List ℕ) → Verdict → MutBor Meter → Type 0
AnalysisReturns κs w k b r w₁ = AnalysisAsks κs w k b → analysis-reads.Learnt κs (w, (k, (b, tt))) r (w₁, (k, (b, tt)))

abbrev pub MeteringReturns : Lfts 1 → MutBor Meter → ℕ → ℕ → Verdict → MutBor Meter → Type 0
MeteringReturns κs w k v r w₁ = MeteringAsks κs w k v → metering-reads.Learnt κs (w, (k, (v, tt))) r (w₁, (k, (v, tt)))

abbrev pub DayReturns : Lfts 3 → MutBor Meter → ℕ → Bor (List ℕ) → Bor (List ℕ) → DayAnswer → MutBor Meter → Type 0
DayReturns κs w k f v r w₁ = DayAsks κs w k f v → day-reads.Learnt κs (w, (k, (f, (v, tt)))) r (w₁, (k, (f, (v, tt))))

abbrev pub TotalsReturns : Lfts 1 → Bor Meter → ℕ → TotalsAnswer → Type 0
TotalsReturns κs w k r = TotalsAsks κs w k → totals-reads.Learnt κs (w, (k, tt)) r (w, (k, tt))

abbrev pub MeanReturns : Energy → Lfts 1 → Bor Meter → ℕ → MeanAnswer → Type 0
MeanReturns e κs w k r = MeanAsks e κs w k → mean-reads.Learnt κs (w, (k, (named e, tt))) r (w, (k, (named e, tt)))

-- document 01's number and values for each case of an answer
abbrev pub change_answer : Verdict → Answer
change_answer v = meaning v done

abbrev pub parts_given : Register → Parts
parts_given e = record { whole = e.whole; rest = e.rest }

abbrev pub totals_given : StreamTotals → Given
totals_given t =
    totals_are
    (record {
      volume = t.volume;
      superior = parts_given t.superior;
      inferior = parts_given t.inferior;
      mass = parts_given t.mass;
    })

abbrev pub totals_answer : TotalsAnswer → Answer
totals_answer r = mapped totals_given (totals_meaning r)

abbrev pub mean_answer : MeanAnswer → Answer
mean_answer r = mapped mean_is (mean_meaning r)

abbrev pub counted_of : Counts → Counted
counted_of c = record { analyses = c.analyses; volumes = c.volumes }

abbrev pub day_reply : DayAnswer → Reply
day_reply r = counted (mapped counted_of (counts_meaning r))

-- the answer of a call that may change the meter, by its definition
abbrev pub change_given : Outcome Meter → Answer
change_given = mapped (λ (m : Meter). done)

-- a day file answers counts alone; its single calls have the answers that their definitions give, each on the meter as the one before
-- leaves it
abbrev pub pair_answers : Meter → ℕ → List (List ℕ) → List ℕ → List Answer
pair_answers m k [] vs = []
pair_answers m k (b ∷ bs) [] = []
pair_answers m k (b ∷ bs) (v ∷ vs) =
    change_given (analysis_of m k b)
    ∷ change_given (metering_of (after_analysis m k b) k v)
    ∷ pair_answers (after_metering (after_analysis m k b) k v) k bs vs

abbrev pub day_answers : Meter → ℕ → List ℕ → List ℕ → List Answer
day_answers m k file volumes = otherwise [] (decided (first_of (day_order_of k file volumes)) (pair_answers m k (blocks_of file) volumes))

-- one call of a function on a meter: the calls that it counts as, their answers, and the meter that it left
pub data Step : Meter → List Call → List Answer → Meter → Type 0 where
  by_analysis : (κs : Lfts 2) (w : MutBor Meter) (k : ℕ) (b : Bor (List ℕ)) (r : Verdict) (w₁ : MutBor Meter) → AnalysisReturns κs w k b r w₁ →
      Step w.now (on k (analysis b.now) ∷ []) (change_answer r ∷ []) w₁.now
  by_metering : (κs : Lfts 1) (w : MutBor Meter) (k v : ℕ) (r : Verdict) (w₁ : MutBor Meter) → MeteringReturns κs w k v r w₁ →
      Step w.now (on k (metering v) ∷ []) (change_answer r ∷ []) w₁.now
  by_day : (κs : Lfts 3) (w : MutBor Meter) (k : ℕ) (f v : Bor (List ℕ)) (r : DayAnswer) (w₁ : MutBor Meter) → DayReturns κs w k f v r w₁ →
      Step w.now (day_calls k f.now v.now) (day_answers w.now k f.now v.now) w₁.now
  by_totals : (κs : Lfts 1) (w : Bor Meter) (k : ℕ) (r : TotalsAnswer) → TotalsReturns κs w k r → Step w.now (on k totals ∷ []) (totals_answer r ∷ []) w.now
  by_mean : (e : Energy) (κs : Lfts 1) (w : Bor Meter) (k : ℕ) (r : MeanAnswer) → MeanReturns e κs w k r → Step w.now (on k (mean e) ∷ []) (mean_answer r ∷ []) w.now

-- a list of calls, each step on the meter as the one before left it
pub data Run : Meter → List Call → List Answer → Meter → Type 0 where
  ended : (m : Meter) → Run m [] [] m
  after : (m m₁ m₂ : Meter) (cs₁ cs : List Call) (rs₁ rs : List Answer) → Step m cs₁ rs₁ m₁ → Run m₁ cs rs m₂ → Run m (cs₁ ++ cs) (rs₁ ++ rs) m₂

-- the call of a step as it was made, and the reply that the function gave
abbrev pub listed_by : {m m₁ : Meter} {cs : List Call} {rs : List Answer} → Step m cs rs m₁ → Listed
listed_by (by_analysis κs w k b r w₁ got) = single (on k (analysis b.now))
listed_by (by_metering κs w k v r w₁ got) = single (on k (metering v))
listed_by (by_day κs w k f v r w₁ got) = day k f.now v.now
listed_by (by_totals κs w k r got) = single (on k totals)
listed_by (by_mean e κs w k r got) = single (on k (mean e))

abbrev pub reply_by : {m m₁ : Meter} {cs : List Call} {rs : List Answer} → Step m cs rs m₁ → Reply
reply_by (by_analysis κs w k b r w₁ got) = answered (change_answer r)
reply_by (by_metering κs w k v r w₁ got) = answered (change_answer r)
reply_by (by_day κs w k f v r w₁ got) = day_reply r
reply_by (by_totals κs w k r got) = answered (totals_answer r)
reply_by (by_mean e κs w k r got) = answered (mean_answer r)

-- those of a list
abbrev pub listed : {m m₁ : Meter} {cs : List Call} {rs : List Answer} → Run m cs rs m₁ → List Listed
listed (ended m) = []
listed (after m m₁ m₂ cs₁ cs rs₁ rs s more) = listed_by s ∷ listed more

abbrev pub replies : {m m₁ : Meter} {cs : List Call} {rs : List Answer} → Run m cs rs m₁ → List Reply
replies (ended m) = []
replies (after m m₁ m₂ cs₁ cs rs₁ rs s more) = reply_by s ∷ replies more
