-- A meter as the words that a caller lends: a row of 16 words for each of the 16 streams.
use Rattle.std.specs.Prelude.{List, [], ◌∷◌, map, ℕ, zero, suc, ◌+◌, get_or, set, Option, Some, None}
use Rattle.properties.specs.Chain.{Six}
use Rattle.properties.specs.Answers.{numbers, quantities}
use Rattle.meter.specs.declared.day.Counts.{Counts}
use Rattle.meter.specs.declared.Gas.{Gas}
use Rattle.meter.specs.declared.StreamTotals.{StreamTotals}
use Rattle.meter.specs.declared.Stream.{Stream}
use Rattle.meter.specs.declared.Meter.{Meter}

-- words of a row
abbrev pub row_length : ℕ
row_length = 16

-- totals: the volume in dm³, the superior and the inferior energy, each as whole MJ and rest, and the mass as whole kg and rest
abbrev pub packed_totals : StreamTotals → List ℕ
packed_totals t =
    t.volume
    ∷ t.superior.whole
    ∷ t.superior.rest
    ∷ t.inferior.whole
    ∷ t.inferior.rest
    ∷ t.mass.whole
    ∷ t.mass.rest
    ∷ []

-- a stream: 1, the pair, the properties, the totals
abbrev pub gas_words : ℕ → ℕ → Six → List ℕ → List ℕ
gas_words combustion metering p more =
    1
    ∷ combustion
    ∷ metering
    ∷ p.Z
    ∷ p.Hs
    ∷ p.Hi
    ∷ p.rho
    ∷ p.d
    ∷ p.W
    ∷ more

-- with no analysis 0 stands in the place of each of these
abbrev pub analysis_words : Option Gas → List ℕ → List ℕ
analysis_words None more = 0 ∷ 0 ∷ 0 ∷ 0 ∷ 0 ∷ 0 ∷ 0 ∷ 0 ∷ 0 ∷ more
analysis_words (Some gas) more = gas_words gas.pair.combustion gas.pair.metering (numbers gas.properties) more

abbrev pub packed_stream : Stream → List ℕ
packed_stream s = analysis_words s.analysis (packed_totals s.totals)

abbrev pub packed : Meter → List (List ℕ)
packed m = map packed_stream m.streams

-- counts: how many analyses, and how many volumes, of a day file were accepted
abbrev pub packed_counts : Counts → List ℕ
packed_counts c = c.analyses ∷ c.volumes ∷ []

-- the properties, the gas and the totals in a row
abbrev pub six_in : List ℕ → Six
six_in row = record { Z = get_or row 3 0; Hs = get_or row 4 0; Hi = get_or row 5 0; rho = get_or row 6 0; d = get_or row 7 0; W = get_or row 8 0 }

abbrev pub gas_in : List ℕ → Gas
gas_in row = record { pair = record { combustion = get_or row 1 0; metering = get_or row 2 0 }; properties = quantities (six_in row) }

abbrev pub totals_in : List ℕ → StreamTotals
totals_in row =
    record {
      volume = get_or row 9 0;
      superior = record { whole = get_or row 10 0; rest = get_or row 11 0 };
      inferior = record { whole = get_or row 12 0; rest = get_or row 13 0 };
      mass = record { whole = get_or row 14 0; rest = get_or row 15 0 };
    }

-- the stream that a row holds: with 0 in its first word it has no analysis
abbrev pub analysis_in : ℕ → List ℕ → Option Gas
analysis_in zero row = None
analysis_in (suc n) row = Some (gas_in row)

abbrev pub stream_in : List ℕ → Stream
stream_in row = record { analysis = analysis_in (get_or row 0 0) row; totals = totals_in row }

-- the meter that words hold
abbrev pub meter_in : List (List ℕ) → Meter
meter_in words = record { streams = map stream_in words }

-- a row with words in it from the i-th on, every other word as it was
abbrev pub words_from : List ℕ → ℕ → List ℕ → List ℕ
words_from row i [] = row
words_from row i (w ∷ ws) = words_from (set row i w) (i + 1) ws

-- a row with another gas, and one with other totals
abbrev pub with_gas_words : List ℕ → ℕ → ℕ → Six → List ℕ
with_gas_words row combustion metering p = words_from row 0 (gas_words combustion metering p [])

abbrev pub with_totals_words : List ℕ → StreamTotals → List ℕ
with_totals_words row t = words_from row 9 (packed_totals t)
