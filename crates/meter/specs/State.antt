-- The meter of document 01 as made, and what holds of every meter.
use Rattle.std.specs.Prelude.{◌≡◌, true, ℕ, ◌+◌, ◌*◌, ◌≤◌, ◌<◌, length, get_or, set, replicate, Option, Some, None}
use Rattle.records.specs.Conditions.{permitted}
use Rattle.properties.specs.Bounds.{calorific_low, density_low, Proper, DensityByAir}
use Rattle.properties.specs.Quantities.{calorific_bound, density_bound}
use Rattle.properties.specs.Answers.{numbers}
use Rattle.meter.specs.declared.Gas.{Gas}
use Rattle.meter.specs.declared.Register.{Register}
use Rattle.meter.specs.declared.StreamTotals.{StreamTotals}
use Rattle.meter.specs.declared.Stream.{Stream}
use Rattle.meter.specs.declared.Meter.{Meter}

-- the last stream
abbrev pub last_stream : ℕ
last_stream = 15

-- the most that one metering call adds, and the most that a volume total comes to, in dm³
abbrev pub most_volume : ℕ
most_volume = 10000000

abbrev pub most_total : ℕ
most_total = 999999999999

-- mJ in 1 MJ
abbrev pub per_mj : ℕ
per_mj = 1000000000

-- 10^-11 kg in 1 kg
abbrev pub per_kg : ℕ
per_kg = 100000000000

-- a register at first
abbrev pub nothing_booked : Register
nothing_booked = record { whole = 0; rest = 0 }

-- volume 0, both energies 0, mass 0
abbrev pub fresh_totals : StreamTotals
fresh_totals = record { volume = 0; superior = nothing_booked; inferior = nothing_booked; mass = nothing_booked }

-- no analysis
abbrev pub fresh_stream : Stream
fresh_stream = record { analysis = None; totals = fresh_totals }

-- 16 streams, 0 to 15
abbrev pub fresh_meter : Meter
fresh_meter = record { streams = replicate 16 fresh_stream }

-- the stream k of a meter, and a fresh one above 15, where 13 has refused the call
abbrev pub stream_at : Meter → ℕ → Stream
stream_at m k = get_or m.streams k fresh_stream

-- the meter with another stream k, and no other stream touched
abbrev pub with_stream : Meter → ℕ → Stream → Meter
with_stream m k s = record { streams = set m.streams k s }

-- what a register holds, in units of its rest, u of which make one of its whole part
abbrev pub amount_in : ℕ → Register → ℕ
amount_in u e = e.whole * u + e.rest

-- what holds of a register at a volume total v: the rest is below one whole, and the amount is that of v at values from a floor to a
-- ceiling
pub record SoundRegister (u floor ceiling v : ℕ) (e : Register) : Type 0 where
  pub rest : e.rest < u
  pub least : v * floor ≤ amount_in u e
  pub most : amount_in u e ≤ v * ceiling

-- what holds of an energy at a volume total v
abbrev pub SoundEnergy : ℕ → Register → Type 0
SoundEnergy = SoundRegister per_mj calorific_low calorific_bound

-- and of a mass
abbrev pub SoundMass : ℕ → Register → Type 0
SoundMass = SoundRegister per_kg density_low density_bound

-- what holds of the totals of every stream
pub record SoundTotals (t : StreamTotals) : Type 0 where
  pub volume : t.volume ≤ most_total
  pub superior : SoundEnergy t.volume t.superior
  pub inferior : SoundEnergy t.volume t.inferior
  pub order : amount_in per_mj t.inferior ≤ amount_in per_mj t.superior
  pub mass : SoundMass t.volume t.mass

-- what holds of every gas in force: the pair is permitted, and the properties are those of an accepted record as far as `Proper` and
-- `DensityByAir` tell
pub record SoundGas (gas : Gas) : Type 0 where
  pub pair : permitted gas.pair.combustion gas.pair.metering ≡ true
  pub properties : Proper (numbers gas.properties)
  pub air : DensityByAir gas.pair.metering (numbers gas.properties)

-- what holds of a stream's totals beside its analysis: with none, they are as made
abbrev pub SoundAnalysis : Option Gas → StreamTotals → Type 0
SoundAnalysis None t = t ≡ fresh_totals
SoundAnalysis (Some gas) t = SoundGas gas

-- what holds of every stream
pub record SoundStream (s : Stream) : Type 0 where
  pub analysis : SoundAnalysis s.analysis s.totals
  pub totals : SoundTotals s.totals

-- what holds of every meter, as made or as its calls left it
pub record Sound (m : Meter) : Type 0 where
  pub count : length m.streams ≡ 16
  pub each : (k : ℕ) → k ≤ last_stream → SoundStream (stream_at m k)
