-- The conditions of refusal of the calls on a meter, with the numbers of document 01, and of W-206 in document 02, and their orders.
use Rattle.std.specs.Prelude.{◌≡◌, Bool, true, false, not, ◌||◌, List, [], ◌∷◌, ◌++◌, ℕ, ◌+◌, eqb, ltb, length, Option, Some, None}
use Rattle.records.specs.Order.{Order, numbers_of}
use Rattle.records.specs.Format.{combustion_in, metering_in}
use Rattle.records.specs.Conditions.{record_order, record_numbers}
use Rattle.day_file.specs.Format.{blocks_of, file_order}
use Rattle.meter.specs.declared.Gas.{Gas}
use Rattle.meter.specs.declared.Stream.{Stream}
use Rattle.meter.specs.State.{last_stream, most_volume, most_total}

-- 13: stream above 15
abbrev pub stream_above : ℕ → Bool
stream_above k = ltb last_stream k

-- 14: pair is not the stream's, which the first accepted analysis fixes
abbrev pub pair_differs : Option Gas → ℕ → ℕ → Bool
pair_differs None c m = false
pair_differs (Some gas) c m = not (eqb gas.pair.combustion c) || not (eqb gas.pair.metering m)

-- 15: volume above 10,000,000
abbrev pub volume_above : ℕ → Bool
volume_above v = ltb most_volume v

-- 16: stream has no analysis
abbrev pub no_analysis : Option Gas → Bool
no_analysis None = true
no_analysis (Some gas) = false

-- 17: volume total would pass 999,999,999,999
abbrev pub total_passes : ℕ → ℕ → Bool
total_passes total v = ltb most_total (total + v)

-- 18: mean wanted at volume total 0
abbrev pub total_zero : ℕ → Bool
total_zero total = eqb total 0

-- 19, of a day file: its blocks and the volumes differ in number
abbrev pub lists_differ : List ℕ → ℕ → Bool
lists_differ file volumes = not (eqb volumes (length (blocks_of file)))

-- 14; 15, 16 and 17; and 18, from whether each of them holds
abbrev pub pair_order : Bool → Order
pair_order fourteen = (14, fourteen) ∷ []

abbrev pub volume_order : Bool → Bool → Bool → Order
volume_order fifteen sixteen seventeen = (15, fifteen) ∷ (16, sixteen) ∷ (17, seventeen) ∷ []

abbrev pub zero_order : Bool → Order
zero_order eighteen = (18, eighteen) ∷ []

-- the order of each call on a stream s, where 13 does not hold
abbrev pub stream_analysis_order : List ℕ → Stream → Order
stream_analysis_order bs s = record_order bs ++ pair_order (pair_differs s.analysis (combustion_in bs) (metering_in bs))

abbrev pub stream_metering_order : ℕ → Stream → Order
stream_metering_order v s = volume_order (volume_above v) (no_analysis s.analysis) (total_passes s.totals.volume v)

-- the order of each call on the stream k; s is that stream
abbrev pub analysis_order : ℕ → List ℕ → Stream → Order
analysis_order k bs s = (13, stream_above k) ∷ stream_analysis_order bs s

abbrev pub metering_order : ℕ → ℕ → Stream → Order
metering_order k v s = (13, stream_above k) ∷ stream_metering_order v s

abbrev pub totals_order : ℕ → Order
totals_order k = (13, stream_above k) ∷ []

abbrev pub mean_order : ℕ → Stream → Order
mean_order k s = (13, stream_above k) ∷ zero_order (total_zero s.totals.volume)

-- of a day file with so many volumes
abbrev pub day_order : ℕ → List ℕ → ℕ → Order
day_order k file volumes = (13, stream_above k) ∷ file_order file ++ ((19, lists_differ file volumes) ∷ [])

-- analysis tries 13, 1 to 8, 10 to 12, 9, 14; metering 13, 15, 16, 17; totals 13; each mean 13, 18; a day file
-- 13, 21, 23, 19
abbrev pub AnalysisNumbers : Type 0
AnalysisNumbers = (k : ℕ) (bs : List ℕ) (s : Stream) → numbers_of (analysis_order k bs s) ≡ 13 ∷ record_numbers ++ (14 ∷ [])

abbrev pub MeteringNumbers : Type 0
MeteringNumbers = (k v : ℕ) (s : Stream) → numbers_of (metering_order k v s) ≡ 13 ∷ 15 ∷ 16 ∷ 17 ∷ []

abbrev pub TotalsNumbers : Type 0
TotalsNumbers = (k : ℕ) → numbers_of (totals_order k) ≡ 13 ∷ []

abbrev pub MeanNumbers : Type 0
MeanNumbers = (k : ℕ) (s : Stream) → numbers_of (mean_order k s) ≡ 13 ∷ 18 ∷ []

abbrev pub DayNumbers : Type 0
DayNumbers = (k : ℕ) (file : List ℕ) (volumes : ℕ) → numbers_of (day_order k file volumes) ≡ 13 ∷ 21 ∷ 23 ∷ 19 ∷ []
