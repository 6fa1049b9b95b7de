-- A day file on the stream k of a meter comes to what it comes to on that stream.
use mathlib.Core.Path.{◌≡◌, refl, sym, ap, ◌∙◌}
use mathlib.Core.List.{List, [], ◌∷◌}
use Prim.Native.Nat.{ℕ, ◌≤◌, ◌<◌}
use lib.Dec.{ltb}
use lib.ListN.{length}
use lib.Seq.{get_or-set_same, set-set, set-get_or}
use Rattle.records.specs.Order.{Order, Outcome, refused, accepted, one_accepted, first_of, decided, otherwise, mapped}
use Rattle.records.proofs.OrderLaws.{otherwise_mapped, mapped_decided}
use Rattle.std.specs.Prelude.{Ok}
use Rattle.day_file.specs.Format.{blocks_of}
use Rattle.meter.specs.declared.day.Counts.{Counts}
use Rattle.meter.specs.declared.Stream.{Stream}
use Rattle.meter.specs.declared.Meter.{Meter}
use Rattle.meter.specs.State.{last_stream, fresh_stream, stream_at, with_stream}
use Rattle.meter.specs.Conditions.{stream_analysis_order, stream_metering_order, day_order}
use Rattle.meter.specs.Calls.{analysed, metered, stream_analysis, stream_metering, analysis_of, metering_of}
use Rattle.meter.specs.Days.{Day, turned, with_calls, day_by, stream_day, meter_day, day_of, counts_in, left_in, GivesDay}
use Rattle.meter.proofs.Orders.{not_above}

one_mapped : {A B : Type 0} (f : A → B) (o : Outcome A) → one_accepted (mapped f o) ≡ one_accepted o
one_mapped f (refused n) = refl
one_mapped f (accepted a) = refl

-- where the single calls agree, so does the day
module _ {A B : Type 0} (f : A → B) (analysis : A → List ℕ → Outcome A) (metering : A → ℕ → Outcome A) (analysis' : B → List ℕ → Outcome B) (metering' : B → ℕ → Outcome B)
    (same_analysis : (a : A) (b : List ℕ) → analysis' (f a) b ≡ mapped f (analysis a b)) (same_metering : (a : A) (v : ℕ) → metering' (f a) v ≡ mapped f (metering a v)) where
  pub day_turned : (bs : List (List ℕ)) (vs : List ℕ) (a : A) → day_by analysis' metering' (f a) bs vs ≡ turned f (day_by analysis metering a bs vs)
  day_turned [] vs a = refl
  day_turned (b ∷ bs) [] a = refl
  day_turned (b ∷ bs) (v ∷ vs) a =
      let o = analysis a b in
      let a₁ = otherwise a o in
      let p = metering a₁ v in
      rw (same_analysis a b, otherwise_mapped f a o, same_metering a₁ v, otherwise_mapped f a₁ p)
      (ap (with_calls (mapped f o) (mapped f p)) (day_turned bs vs (otherwise a₁ p)) ∙ rw (one_mapped f o, one_mapped f p))

module _ (m : Meter) (k : ℕ) (low : k ≤ last_stream) (within : k < length m.streams) where
  at_put_back : (s : Stream) → stream_at (with_stream m k s) k ≡ s
  at_put_back s = get_or-set_same m.streams k s fresh_stream within

  put_twice : (s t : Stream) → with_stream (with_stream m k s) k t ≡ with_stream m k t
  put_twice s t = ap (λ (l : List Stream). record { streams = l }) (set-set m.streams k s t)

  -- a call on the stream, from what stands at k
  on_named : (rest : Order) (s t : Stream) →
      decided (first_of ((13, ltb last_stream k) ∷ rest)) (with_stream (with_stream m k s) k t) ≡ mapped (with_stream m k) (decided (first_of rest) t)
  on_named rest s t = rw (put_twice s t, ← not_above rest low) (sym (mapped_decided (with_stream m k) (first_of rest) t))

  same_analysis : (s : Stream) (b : List ℕ) → analysis_of (with_stream m k s) k b ≡ mapped (with_stream m k) (stream_analysis s b)
  same_analysis s b = rw (at_put_back s) (on_named (stream_analysis_order b s) s (analysed s b))

  same_metering : (s : Stream) (v : ℕ) → metering_of (with_stream m k s) k v ≡ mapped (with_stream m k) (stream_metering s v)
  same_metering s v = rw (at_put_back s) (on_named (stream_metering_order v s) s (metered s v))

  pub day_on_meter : (bs : List (List ℕ)) (vs : List ℕ) → meter_day k m bs vs ≡ turned (with_stream m k) (stream_day (stream_at m k) bs vs)
  day_on_meter bs vs =
      ap (λ (n : Meter). meter_day k n bs vs) (ap (λ (l : List Stream). record { streams = l }) (sym (set-get_or m.streams k fresh_stream)))
      ∙ day_turned (with_stream m k) stream_analysis stream_metering (λ (n : Meter) (b : List ℕ). analysis_of n k b) (λ (n : Meter) (v : ℕ). metering_of n k v)
      same_analysis same_metering bs vs (stream_at m k)

  -- a day file that no number refuses
  pub day_gives : (file : List ℕ) (vs : List ℕ) {c : Counts} {s : Stream} → 0 ≡ first_of (day_order k file (length vs)) →
      ◌≡◌ {A = Day Stream} (record { counts = c; left = s }) (stream_day (stream_at m k) (blocks_of file) vs) → GivesDay (day_of m k file vs) m (Ok c) (with_stream m k s)
  day_gives file vs {c} {s} clear is =
      let day : day_of m k file vs ≡ accepted (turned (with_stream m k) (record { counts = c; left = s })) =
      rw (← clear, day_on_meter (blocks_of file) vs, ← is) in
      record { counts = sym (ap counts_in day); stands = sym (ap (λ (o : Outcome (Day Meter)). otherwise m (left_in o)) day) }
