-- The metering of a day file: what its blocks and their volumes come to, made as single calls one by one.
use Rattle.std.specs.Prelude.{◌≡◌, List, [], ◌∷◌, ℕ, ◌+◌, length, Result}
use Rattle.records.specs.declared.refusal.Refusal.{Refusal}
use Rattle.records.specs.Order.{Outcome, one_accepted, first_of, decided, otherwise, mapped}
use Rattle.records.specs.Refusals.{outcome}
use Rattle.day_file.specs.Format.{blocks_of}
use Rattle.meter.specs.declared.day.Counts.{Counts}
use Rattle.meter.specs.declared.Stream.{Stream}
use Rattle.meter.specs.declared.Meter.{Meter}
use Rattle.meter.specs.Conditions.{day_order}
use Rattle.meter.specs.Calls.{stream_analysis, stream_metering, analysis_of, metering_of}

-- how many analyses and how many volumes were accepted, and what is left: a stream, or a meter
pub record Day (A : Type 0) : Type 0 where
  pub counts : Counts
  pub left : A

module _ {A : Type 0} where
  -- none yet
  abbrev pub no_day : A → Day A
  no_day a = record { counts = record { analyses = 0; volumes = 0 }; left = a }

  -- with the call of a block and that of its volume before it
  abbrev pub with_calls : Outcome A → Outcome A → Day A → Day A
  with_calls analysis metering d =
      record {
        counts = record { analyses = one_accepted analysis + d.counts.analyses; volumes = one_accepted metering + d.counts.volumes };
        left = d.left;
      }

  -- for each block first the analysis, then its volume; a refusal leaves all as it was and stops nothing
  abbrev pub day_by : (A → List ℕ → Outcome A) → (A → ℕ → Outcome A) → A → List (List ℕ) → List ℕ → Day A
  day_by analysis metering a [] vs = no_day a
  day_by analysis metering a (b ∷ bs) [] = no_day a
  day_by analysis metering a (b ∷ bs) (v ∷ vs) =
      with_calls (analysis a b) (metering (otherwise a (analysis a b)) v)
      (day_by analysis metering (otherwise (otherwise a (analysis a b)) (metering (otherwise a (analysis a b)) v)) bs vs)

-- a day with what it leaves turned into another thing
abbrev pub turned : {A B : Type 0} → (A → B) → Day A → Day B
turned f d = record { counts = d.counts; left = f d.left }

-- on a stream, where 13 does not hold; and on the stream k of a meter
abbrev pub stream_day : Stream → List (List ℕ) → List ℕ → Day Stream
stream_day = day_by stream_analysis stream_metering

abbrev pub meter_day : ℕ → Meter → List (List ℕ) → List ℕ → Day Meter
meter_day k = day_by (λ (m : Meter) (bs : List ℕ). analysis_of m k bs) (λ (m : Meter) (v : ℕ). metering_of m k v)

-- the metering of a day file on the stream k: 13, 21, 23 or 19, or what its blocks and the volumes come to
abbrev pub day_of : Meter → ℕ → List ℕ → List ℕ → Outcome (Day Meter)
day_of m k file volumes = decided (first_of (day_order k file (length volumes))) (meter_day k m (blocks_of file) volumes)

-- The answer: document 02's number, or the counts.
abbrev pub counts_meaning : Result Counts Refusal → Outcome Counts
counts_meaning = outcome (λ c. c)

abbrev pub counts_in : {A : Type 0} → Outcome (Day A) → Outcome Counts
counts_in = mapped (λ d. d.counts)

abbrev pub left_in : {A : Type 0} → Outcome (Day A) → Outcome A
left_in = mapped (λ d. d.left)

-- An answer and the meter after it give an outcome: the answer is its number or its counts, and a refusal leaves the meter as it was.
pub record GivesDay {A : Type 0} (day : Outcome (Day A)) (before : A) (answer : Result Counts Refusal) (after : A) : Type 0 where
  pub counts : counts_meaning answer ≡ counts_in day
  pub stands : after ≡ otherwise before (left_in day)
