-- What the calls on a meter give: the number of the first condition that holds, or the answer or the meter after the call.
use Rattle.std.specs.Prelude.{List, ℕ, ◌+◌, ◌*◌, ◌/◌, ◌%◌, Option, Some, None}
use Rattle.rounding.specs.Near.{near}
use Rattle.records.specs.Order.{Outcome, first_of, decided, otherwise}
use Rattle.records.specs.Format.{combustion_in, metering_in, contents_in}
use Rattle.properties.specs.declared.Properties.{Properties}
use Rattle.properties.specs.Chain.{six_of}
use Rattle.properties.specs.Answers.{quantities}
use Rattle.meter.specs.declared.Energy.{Energy}
use Rattle.meter.specs.declared.Energy.TheVariants.{Superior, Inferior}
use Rattle.meter.specs.declared.Gas.{Gas}
use Rattle.meter.specs.declared.Register.{Register}
use Rattle.meter.specs.declared.Stream.{Stream}
use Rattle.meter.specs.declared.Meter.{Meter}
use Rattle.meter.specs.declared.StreamTotals.{StreamTotals}
use Rattle.meter.specs.State.{stream_at, with_stream, amount_in, per_mj, per_kg}
use Rattle.meter.specs.Conditions.{total_zero, zero_order, stream_analysis_order, stream_metering_order, analysis_order, metering_order, totals_order, mean_order}

-- an accepted record as a gas in force
abbrev pub gas_of : List ℕ → Gas
gas_of bs = record { pair = record { combustion = combustion_in bs; metering = metering_in bs }; properties = quantities (six_of (contents_in bs)) }

-- a stream with another gas in force, and with that of a record
abbrev pub with_gas : Stream → Gas → Stream
with_gas s gas = record { analysis = Some gas; totals = s.totals }

abbrev pub analysed : Stream → List ℕ → Stream
analysed s bs = with_gas s (gas_of bs)

-- a register with n more, u of which make one whole
abbrev pub booked : ℕ → Register → ℕ → Register
booked u e n = record { whole = (amount_in u e + n) / u; rest = (amount_in u e + n) % u }

-- totals with v dm³ more, v × Hs and v × Hi mJ more, and v × rho of 10^-11 kg more
abbrev pub added : StreamTotals → Properties → ℕ → StreamTotals
added t p v =
    record {
      volume = t.volume + v;
      superior = booked per_mj t.superior (v * p.hs.value);
      inferior = booked per_mj t.inferior (v * p.hi.value);
      mass = booked per_kg t.mass (v * p.rho.value);
    }

-- a stream with v dm³ more, by the analysis in force; with none, 16 has refused the call
abbrev pub with_volume : Option Gas → ℕ → Stream → Stream
with_volume None v s = s
with_volume (Some gas) v s = record { analysis = s.analysis; totals = added s.totals gas.properties v }

abbrev pub metered : Stream → ℕ → Stream
metered s v = with_volume s.analysis v s

-- the calls on a stream, where 13 does not hold
abbrev pub stream_analysis : Stream → List ℕ → Outcome Stream
stream_analysis s bs = decided (first_of (stream_analysis_order bs s)) (analysed s bs)

abbrev pub stream_metering : Stream → ℕ → Outcome Stream
stream_metering s v = decided (first_of (stream_metering_order v s)) (metered s v)

-- the analysis call: the record's properties come into force on the stream k
abbrev pub analysis_of : Meter → ℕ → List ℕ → Outcome Meter
analysis_of m k bs = decided (first_of (analysis_order k bs (stream_at m k))) (with_stream m k (analysed (stream_at m k) bs))

-- the metering call: the stream k takes v dm³
abbrev pub metering_of : Meter → ℕ → ℕ → Outcome Meter
metering_of m k v = decided (first_of (metering_order k v (stream_at m k))) (with_stream m k (metered (stream_at m k) v))

-- the meter after either call: as it was where the call is refused
abbrev pub after_analysis : Meter → ℕ → List ℕ → Meter
after_analysis m k bs = otherwise m (analysis_of m k bs)

abbrev pub after_metering : Meter → ℕ → ℕ → Meter
after_metering m k v = otherwise m (metering_of m k v)

-- the reading of totals
abbrev pub totals_of : Meter → ℕ → Outcome StreamTotals
totals_of m k = decided (first_of (totals_order k)) (stream_at m k).totals

-- a mean, in J/m³: near(energy in mJ / volume in dm³)
abbrev pub mean_in : Register → ℕ → ℕ
mean_in e v = near (amount_in per_mj e) v

-- the mean of an energy over a volume, or 18
abbrev pub mean_over : Register → ℕ → Outcome ℕ
mean_over e v = decided (first_of (zero_order (total_zero v))) (mean_in e v)

-- the reading of a mean, from an energy of the stream k
abbrev pub mean_reading : ℕ → Stream → Register → Outcome ℕ
mean_reading k s e = decided (first_of (mean_order k s)) (mean_in e s.totals.volume)

-- the mean of the superior energy, and that of the inferior
abbrev pub mean_of : Meter → ℕ → Outcome ℕ
mean_of m k = mean_reading k (stream_at m k) (stream_at m k).totals.superior

abbrev pub mean_inferior_of : Meter → ℕ → Outcome ℕ
mean_inferior_of m k = mean_reading k (stream_at m k) (stream_at m k).totals.inferior

-- the mean of an energy
abbrev pub mean_for : Energy → Meter → ℕ → Outcome ℕ
mean_for Superior = mean_of
mean_for Inferior = mean_inferior_of

-- the register of an energy
abbrev pub register_of : Energy → StreamTotals → Register
register_of Superior t = t.superior
register_of Inferior t = t.inferior
