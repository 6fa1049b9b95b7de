-- What is shown of every meter. `Sound` holds of a meter as made, and every call that may change the meter keeps it. What it says of a
-- stream is the invariant of the stream's type, so no contract of a call on a meter asks for it.
use Rattle.std.specs.Prelude.{◌≡◌, false, List, ℕ, ◌*◌, ◌^◌, ◌≤◌, ◌<◌, Result}
use Rattle.records.specs.declared.refusal.Refusal.{Refusal}
use Rattle.records.specs.Refusals.{Verdict}
use Rattle.records.specs.Order.{Outcome, accepted, first_of}
use Rattle.records.specs.Answers.{Gives}
use Rattle.properties.specs.Quantities.{calorific_bound}
use Rattle.meter.specs.declared.day.Counts.{Counts}
use Rattle.meter.specs.declared.Register.{Register}
use Rattle.meter.specs.declared.StreamTotals.{StreamTotals}
use Rattle.meter.specs.declared.Meter.{Meter}
use Rattle.meter.specs.State.{last_stream, most_volume, SoundTotals, Sound, fresh_meter, stream_at}
use Rattle.meter.specs.Conditions.{no_analysis, metering_order}
use Rattle.meter.specs.Calls.{analysis_of, metering_of, mean_of, mean_inferior_of}
use Rattle.meter.specs.Days.{day_of, GivesDay}

abbrev pub FreshIsSound : Type 0
FreshIsSound = Sound fresh_meter

-- `after` is the meter that the call's contract promises, whether the call is accepted or refused
abbrev pub AnalysisKeeps : Type 0
AnalysisKeeps = (m : Meter) (k : ℕ) (bs : List ℕ) (v : Verdict) (after : Meter) → Gives (analysis_of m k bs) m v after → Sound m → Sound after

abbrev pub MeteringKeeps : Type 0
MeteringKeeps = (m : Meter) (k w : ℕ) (v : Verdict) (after : Meter) → Gives (metering_of m k w) m v after → Sound m → Sound after

abbrev pub DayKeeps : Type 0
DayKeeps =
    (m : Meter) (k : ℕ) (file vs : List ℕ) (r : Result Counts Refusal) (after : Meter) → GivesDay (day_of m k file vs) m r after → Sound m → Sound after

-- only the named stream may change: every other stream is as it was
abbrev pub AnalysisLeavesOthers : Type 0
AnalysisLeavesOthers =
    (m : Meter) (k : ℕ) (bs : List ℕ) (v : Verdict) (after : Meter) → Gives (analysis_of m k bs) m v after →
    (j : ℕ) → (j ≡ k → ⊥) → stream_at after j ≡ stream_at m j

abbrev pub MeteringLeavesOthers : Type 0
MeteringLeavesOthers =
    (m : Meter) (k w : ℕ) (v : Verdict) (after : Meter) → Gives (metering_of m k w) m v after →
    (j : ℕ) → (j ≡ k → ⊥) → stream_at after j ≡ stream_at m j

abbrev pub DayLeavesOthers : Type 0
DayLeavesOthers =
    (m : Meter) (k : ℕ) (file vs : List ℕ) (r : Result Counts Refusal) (after : Meter) → GivesDay (day_of m k file vs) m r after →
    (j : ℕ) → (j ≡ k → ⊥) → stream_at after j ≡ stream_at m j

-- volume 0 is accepted on every stream that has an analysis
abbrev pub ZeroIsAccepted : Type 0
ZeroIsAccepted = (m : Meter) (k : ℕ) → Sound m → k ≤ last_stream → no_analysis (stream_at m k).analysis ≡ false → first_of (metering_order k 0 (stream_at m k)) ≡ 0

-- The parts of every register fit 64 bits, and so does what one call books. Both parts in one number need not, and no call forms it:
-- 999,999,999,999 dm³ at the ceiling of rho are some 5.1 × 10^20 of 10^-11 kg.
pub record PartsFit (e : Register) : Type 0 where
  pub whole : e.whole < 2 ^ 64
  pub rest : e.rest < 2 ^ 64

-- those of a stream's three registers
pub record AllFit (t : StreamTotals) : Type 0 where
  pub superior : PartsFit t.superior
  pub inferior : PartsFit t.inferior
  pub mass : PartsFit t.mass

pub record RegistersFit : Type 0 where
  pub parts : (t : StreamTotals) → SoundTotals t → AllFit t
  -- the volume of one call times a value below 2^32, as every ceiling is
  pub booking : (v h : ℕ) → v ≤ most_volume → h < 2 ^ 32 → v * h < 2 ^ 64

-- neither mean is above the ceiling of a calorific value
abbrev pub AtMostCeiling : (Meter → ℕ → Outcome ℕ) → Type 0
AtMostCeiling reading = (m : Meter) (k h : ℕ) → Sound m → reading m k ≡ accepted h → h ≤ calorific_bound

pub record NoMeanAboveCeiling : Type 0 where
  pub superior : AtMostCeiling mean_of
  pub inferior : AtMostCeiling mean_inferior_of
