-- What the exported functions give, beside a number: what stands in the memory that the caller lent.
use Rattle.std.specs.Prelude.{◌≡◌, Bool, List, [], ◌∷◌, ℕ, ◌<◌, Option, is_some, unwrap_or}
use Rattle.records.specs.declared.Analysis.{Analysis}
use Rattle.records.specs.Order.{Outcome, refused, accepted}
use Rattle.records.specs.Format.{Contents}
use Rattle.records.specs.Calls.{reading_of, writing_of}
use Rattle.properties.specs.Chain.{Six, properties_of}
use Rattle.properties.specs.PerKilogram.{MassBasis, per_kilogram_of}
use Rattle.day_file.specs.Walk.{Next, offset, at_end, next_of}
use Rattle.meter.specs.declared.Register.{Register}
use Rattle.meter.specs.declared.Meter.{Meter}
use Rattle.meter.specs.State.{stream_at}
use Rattle.meter.specs.Calls.{analysis_of, metering_of, totals_of, mean_reading}
use Rattle.meter.specs.Days.{day_of}

module _ {A : Type 0} where
  -- 0 stands for no refusal
  abbrev pub NeverRefusedByZero : Outcome A → Type 0
  NeverRefusedByZero outcome = outcome ≡ refused 0 → ⊥

-- no call is refused with the number 0, so 0 says that it was accepted
pub record ZeroSaysAccepted : Type 0 where
  pub properties : (bs : List ℕ) → NeverRefusedByZero (properties_of bs)
  pub per_kilogram : (bs : List ℕ) → NeverRefusedByZero (per_kilogram_of bs)
  pub reading : (bs : List ℕ) → NeverRefusedByZero (reading_of bs)
  pub writing : (k : Contents) (old : List ℕ) → NeverRefusedByZero (writing_of k old)
  pub analysis : (m : Meter) (k : ℕ) (bs : List ℕ) → NeverRefusedByZero (analysis_of m k bs)
  pub metering : (m : Meter) (k v : ℕ) → NeverRefusedByZero (metering_of m k v)
  pub day : (m : Meter) (k : ℕ) (file vs : List ℕ) → NeverRefusedByZero (day_of m k file vs)
  pub walk : (file : List ℕ) (at : ℕ) → NeverRefusedByZero (next_of file at)
  pub totals : (m : Meter) (k : ℕ) → NeverRefusedByZero (totals_of m k)
  -- the mean of either energy
  pub mean : (m : Meter) (k : ℕ) (e : Register) → NeverRefusedByZero (mean_reading k (stream_at m k) e)

-- the properties in document 01's order
abbrev pub in_order : Six → List ℕ
in_order p = p.Z ∷ p.Hs ∷ p.Hi ∷ p.rho ∷ p.d ∷ p.W ∷ []

-- the superior and the inferior value per kilogram
abbrev pub per_kilogram_in_order : MassBasis → List ℕ
per_kilogram_in_order v = v.superior ∷ v.inferior ∷ []

-- the next offset in the place that a caller lends for it: 0 where the file has ended
abbrev pub next_word : Next → ℕ
next_word (offset n) = n
next_word at_end = 0

-- the offset after a block is not 0, so 0 says that the file has ended
abbrev pub EndIsNoOffset : Type 0
EndIsNoOffset = (file : List ℕ) (at next : ℕ) → next_of file at ≡ accepted (offset next) → 0 < next_word (offset next)

-- a block in the place that a caller lends for it: true and the block, or false and what stood there
pub record BlockPut (found : Option (List ℕ)) (before : List ℕ) (answer : Bool) (after : List ℕ) : Type 0 where
  pub told : answer ≡ is_some found
  pub stands : after ≡ unwrap_or found before

-- an analysis in the places that a caller lends for its parts
abbrev pub analysis : ℕ → ℕ → ℕ → List ℕ → List ℕ → Analysis
analysis combustion metering count lines fractions =
    record {
      pair = record { combustion = combustion; metering = metering };
      count = count;
      lines = lines;
      fractions = fractions;
    }
