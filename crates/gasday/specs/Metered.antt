-- What a day file and its volumes come to on the first stream of a fresh meter.
use Rattle.std.specs.Prelude.{◌≡◌, true, List, ℕ, Result, take}
use Rattle.records.specs.declared.refusal.Refusal.{Refusal}
use Rattle.records.specs.Order.{Outcome, mapped}
use Rattle.records.specs.Refusals.{outcome}
use Rattle.day_file.specs.Format.{first_block, no_day_file}
use Rattle.meter.specs.declared.day.Counts.{Counts}
use Rattle.meter.specs.declared.StreamTotals.{StreamTotals}
use Rattle.meter.specs.declared.Meter.{Meter}
use Rattle.meter.specs.State.{fresh_meter, stream_at}
use Rattle.meter.specs.Calls.{mean_of, mean_inferior_of}
use Rattle.meter.specs.Days.{Day, day_of}
use Rattle.meter.specs.Answers.{mean_meaning}
use Rattle.gasday.specs.declared.metered.Metered.{Metered}

-- the counts, and what the stream then shows
pub record Shown : Type 0 where
  pub counts : Counts
  pub totals : StreamTotals
  pub mean : Outcome ℕ
  pub mean_inferior : Outcome ℕ

abbrev pub shown_after : Day Meter → Shown
shown_after day =
    record {
      counts = day.counts;
      totals = (stream_at day.left 0).totals;
      mean = mean_of day.left 0;
      mean_inferior = mean_inferior_of day.left 0;
    }

-- the number that refuses the file, or the counts, the totals and the means
abbrev pub metered_of : List ℕ → List ℕ → Outcome Shown
metered_of file volumes = mapped shown_after (day_of fresh_meter 0 file volumes)

-- how an answer says it
abbrev pub shown : Metered → Shown
shown m = record { counts = m.counts; totals = m.totals; mean = mean_meaning m.mean; mean_inferior = mean_meaning m.mean_inferior }

abbrev pub metered_meaning : Result Metered Refusal → Outcome Shown
metered_meaning = outcome shown

-- the first 5 bytes of an input tell whether it is a day file, and where it is none, they are refused by the same number as all of it
abbrev pub FirstBytesTell : Type 0
FirstBytesTell = (bs : List ℕ) → no_day_file (take first_block bs) ≡ no_day_file bs

abbrev pub FirstBytesDecide : Type 0
FirstBytesDecide = (bs volumes : List ℕ) → no_day_file bs ≡ true → metered_of (take first_block bs) volumes ≡ metered_of bs volumes
