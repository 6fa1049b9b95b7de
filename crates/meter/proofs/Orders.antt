-- What the orders of the calls say: their numbers, and what holds where no condition does.
use mathlib.Core.Path.{◌≡◌, refl}
use mathlib.Core.Bool.{Bool, false}
use mathlib.Core.List.{List, [], ◌∷◌, ◌++◌}
use Prim.Native.Nat.{ℕ, ◌+◌, ◌≤◌, ◌<◌}
use borrow.Author.Tests.{ltb-false, lt-ltb, le-ltb}
use lib.Dec.{ltb}
use Rattle.records.specs.Order.{Order, first_of}
use Rattle.records.specs.Format.{combustion_in, metering_in}
use Rattle.records.specs.Conditions.{record_order}
use Rattle.records.proofs.OrderLaws.{unmet, clear_first, clear_second}
use Rattle.meter.specs.declared.Stream.{Stream}
use Rattle.meter.specs.State.{last_stream, most_volume, most_total}
use Rattle.meter.specs.Conditions.{pair_differs, no_analysis, analysis_order, metering_order, AnalysisNumbers, MeteringNumbers, TotalsNumbers, MeanNumbers, DayNumbers}

pub analysis_numbers : AnalysisNumbers
analysis_numbers k bs s = refl

pub metering_numbers : MeteringNumbers
metering_numbers k v s = refl

pub totals_numbers : TotalsNumbers
totals_numbers k = refl

pub mean_numbers : MeanNumbers
mean_numbers k s = refl

pub day_numbers : DayNumbers
day_numbers k file volumes = refl

-- 13, which every call tries first
pub above : {k : ℕ} (rest : Order) → last_stream < k → 13 ≡ first_of ((13, ltb last_stream k) ∷ rest)
above {k} rest h = rw (lt-ltb last_stream k h)

pub not_above : {k : ℕ} (rest : Order) → k ≤ last_stream → first_of rest ≡ first_of ((13, ltb last_stream k) ∷ rest)
not_above {k} rest h = rw (le-ltb last_stream k h)

-- an accepted analysis: the record's part of the order, from whether 13 and 14 hold
pub record_clear : (bs : List ℕ) (thirteen fourteen : Bool) → first_of ((13, thirteen) ∷ record_order bs ++ ((14, fourteen) ∷ [])) ≡ 0 → first_of (record_order bs) ≡ 0
record_clear bs thirteen fourteen h =
    clear_first (record_order bs) ((14, fourteen) ∷ []) tt (clear_second ((13, thirteen) ∷ []) (record_order bs ++ ((14, fourteen) ∷ [])) tt h)

pub record ClearAnalysis (k : ℕ) (bs : List ℕ) (s : Stream) : Type 0 where
  pub stream : k ≤ last_stream
  pub clear : first_of (record_order bs) ≡ 0
  pub pair : pair_differs s.analysis (combustion_in bs) (metering_in bs) ≡ false

pub clear_analysis : (k : ℕ) (bs : List ℕ) (s : Stream) → first_of (analysis_order k bs s) ≡ 0 → ClearAnalysis k bs s
clear_analysis k bs s h =
    let free = unmet (analysis_order k bs s) tt h in
    record { stream = ltb-false last_stream k (free 13); clear = record_clear bs (ltb last_stream k) (pair_differs s.analysis (combustion_in bs) (metering_in bs)) h; pair = free 14 }

-- an accepted volume
pub record ClearMetering (k v : ℕ) (s : Stream) : Type 0 where
  pub stream : k ≤ last_stream
  pub volume : v ≤ most_volume
  pub analysed : no_analysis s.analysis ≡ false
  pub total : s.totals.volume + v ≤ most_total

pub clear_metering : (k v : ℕ) (s : Stream) → first_of (metering_order k v s) ≡ 0 → ClearMetering k v s
clear_metering k v s h =
    let free = unmet (metering_order k v s) tt h in
    record { stream = ltb-false last_stream k (free 13); volume = ltb-false most_volume v (free 15); analysed = free 16; total = ltb-false most_total (s.totals.volume + v) (free 17) }
