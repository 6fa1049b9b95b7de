-- The calls that the program makes, and the meter after the first n of them.
use Rattle.std.specs.Prelude.{List, [], ◌∷◌, ℕ, zero, suc, ◌-◌, ◌*◌, ◌%◌}
use Rattle.records.specs.Format.{contents, bytes_of}
use Rattle.meter.specs.declared.Meter.{Meter}
use Rattle.meter.specs.Calls.{after_analysis, after_metering}

-- 15 °C for even streams, 0 °C for odd ones
abbrev pub temperature_of : ℕ → ℕ
temperature_of k = 15 * (1 - k % 2)

-- the record of methane alone at t/t
abbrev pub methane_at : ℕ → List ℕ
methane_at t = bytes_of (contents t t (1 ∷ []) (1000000 ∷ []))

-- an analysis of methane on each of the first n streams
unfoldable pub analysed_to : ℕ → Meter → Meter
analysed_to zero m = m
analysed_to (suc k) m = after_analysis (analysed_to k m) k (methane_at (temperature_of k))

-- the first n metering calls, counted from 0: the call i meters i mod 1,000 dm³ on the stream i mod 16
unfoldable pub metered_to : ℕ → Meter → Meter
metered_to zero m = m
metered_to (suc i) m = after_metering (metered_to i m) (i % 16) (i % 1000)
