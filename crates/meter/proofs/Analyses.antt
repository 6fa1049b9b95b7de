-- An analysis of a stream, from what its code finds of the record.
use mathlib.Core.Path.{◌≡◌, refl, sym}
use mathlib.Core.Bool.{true}
use mathlib.Core.List.{List}
use Rattle.std.specs.Prelude.{Some, Err}
use Prim.Native.Nat.{ℕ}
use Rattle.std.specs.Result.{IsErrAnd}
use Rattle.records.specs.declared.refusal.Refusal.{Refusal}
use Rattle.records.specs.declared.refusal.Refusal.TheVariants as refusal
use Rattle.records.specs.Refusals.{Verdict, number}
use Rattle.records.specs.Order.{Order, first_of}
use Rattle.records.specs.Format.{combustion_in, metering_in, contents_in}
use Rattle.records.specs.Conditions.{record_order}
use Rattle.records.specs.Answers.{Gives}
use Rattle.records.proofs.OrderLaws.{stops, passes, some_number, gives_refused}
use Rattle.properties.specs.declared.Properties.{Properties}
use Rattle.properties.specs.Chain.{six_of}
use Rattle.properties.specs.Answers.{numbers, quantities}
use Rattle.meter.specs.declared.Gas.{Gas}
use Rattle.meter.specs.declared.StreamTotals.{StreamTotals}
use Rattle.meter.specs.declared.Stream.{Stream}
use Rattle.meter.specs.State.{SoundTotals, SoundStream}
use Rattle.meter.specs.Conditions.{pair_differs, pair_order}
use Rattle.meter.specs.Calls.{gas_of, analysed, stream_analysis}
use Rattle.meter.proofs.Kept.{sound_gas}

module _ (s : Stream) (bs : List ℕ) where
  abbrev fourteen : Order
  fourteen = pair_order (pair_differs s.analysis (combustion_in bs) (metering_in bs))

  pub record_refused : (v : Verdict) (e : Refusal) → IsErrAnd v (λ y. y ≡ e) → number e ≡ first_of (record_order bs) → Gives (stream_analysis s bs) s v s
  record_refused v e is h = gives_refused v e (analysed s bs) s is (stops (record_order bs) fourteen h (some_number e))

  pub pair_refused : 0 ≡ first_of (record_order bs) → {c m : ℕ} → c ≡ combustion_in bs → m ≡ metering_in bs → true ≡ pair_differs s.analysis c m →
      Gives (stream_analysis s bs) s (Err refusal.PairDiffers) s
  pair_refused clear combustion metering differs =
      gives_refused (Err refusal.PairDiffers) refusal.PairDiffers (analysed s bs) s refl
      (passes (record_order bs) fourteen tt clear refl (rw (← combustion, ← metering, ← differs)))

-- a gas is that of a record whose pair and properties it has
pub gas_is : (bs : List ℕ) (gas : Gas) → gas.pair.combustion ≡ combustion_in bs → gas.pair.metering ≡ metering_in bs →
    numbers gas.properties ≡ six_of (contents_in bs) → gas ≡ gas_of bs
gas_is bs gas combustion metering is =
    λ i. record { pair = record { combustion = combustion i; metering = metering i }; properties = quantities (is i) }

-- a stream with the pair and the properties of an accepted record
pub sound_with : (bs : List ℕ) → 0 ≡ first_of (record_order bs) → (p : Properties) {c m : ℕ} → c ≡ combustion_in bs → m ≡ metering_in bs →
    numbers p ≡ six_of (contents_in bs) → {t : StreamTotals} → SoundTotals t →
    SoundStream (record { analysis = Some (record { pair = record { combustion = c; metering = m }; properties = p }); totals = t })
sound_with bs clear p combustion metering is totals =
    rw (gas_is bs _ combustion metering is) (record { analysis = sound_gas bs (sym clear); totals = totals })
