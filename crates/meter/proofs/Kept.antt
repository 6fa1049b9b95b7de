-- What is shown of every meter.
use mathlib.Core.Path.{◌≡◌, refl, sym, subst, ◌∙◌}
use mathlib.Core.Bool.{Bool, true, false, cond}
use mathlib.Core.List.{List, [], ◌∷◌}
use Rattle.std.specs.Prelude.{Option, Some, None}
use Prim.Native.Nat.{ℕ, zero, suc, ◌+◌, ◌*◌, ◌^◌, ◌≤◌, ◌<◌}
use native.Mathlib.Nat.{le_of_lt, lt_trans, mul-le-mul}
use native.Mathlib.Omega.{arith}
use borrow.Author.Tests.{le-ltb, ltb-false, eqb-false}
use lib.Dec.{eqb}
use lib.ListN.{length, length-set}
use lib.Seq.{get_or-set_other}
use Rattle.records.specs.Order.{accepted, first_of, decided, otherwise}
use Rattle.records.specs.Format.{contents_in}
use Rattle.records.specs.Conditions.{record_order}
use Rattle.records.proofs.OrderLaws.{unmet, decided_accepted}
use Rattle.records.proofs.RoundTrips.{accepted_head}
use Rattle.records.proofs.Accepted.{acceptable}
use Rattle.properties.specs.Bounds.{calorific_low, density_low}
use Rattle.properties.specs.Quantities.{calorific_bound, density_bound}
use Rattle.properties.proofs.Gas.{proper, density_by_air}
use Rattle.day_file.specs.Format.{blocks_of}
use Rattle.meter.specs.declared.Gas.{Gas}
use Rattle.meter.specs.declared.Register.{Register}
use Rattle.meter.specs.declared.Stream.{Stream}
use Rattle.meter.specs.declared.Meter.{Meter}
use Rattle.meter.specs.State.{last_stream, most_total, SoundRegister, SoundEnergy, SoundTotals, SoundGas, SoundAnalysis, SoundStream, Sound, fresh_stream, stream_at, with_stream, per_mj, per_kg}
use Rattle.meter.specs.Conditions.{analysis_order, metering_order, mean_order, day_order}
use Rattle.meter.specs.Calls.{gas_of, analysed, booked, with_volume, metered, after_analysis, after_metering, mean_in, mean_reading}
use Rattle.meter.specs.Days.{meter_day, day_of, left_in}
use Rattle.meter.specs.Kept.{FreshIsSound, AnalysisKeeps, MeteringKeeps, DayKeeps, AnalysisLeavesOthers, MeteringLeavesOthers, DayLeavesOthers, ZeroIsAccepted, PartsFit, RegistersFit, NoMeanAboveCeiling}
use Rattle.meter.proofs.Orders.{clear_analysis, clear_metering}
use Rattle.meter.proofs.Registers.{sound_booked, booked_at_most, whole_below}
use Rattle.meter.proofs.Streams.{at_made, at_put}
use Rattle.meter.proofs.Means.{mean_bounded}

pub fresh_stream_is_sound : SoundStream fresh_stream
fresh_stream_is_sound = record { analysis = refl; totals = omega arith }

pub fresh_is_sound : FreshIsSound
fresh_is_sound = record { count = refl; each = λ k b. rw (at_made fresh_stream 16 k) fresh_stream_is_sound }

-- one stream is replaced by a sound one
with_sound : (m : Meter) (k : ℕ) (s : Stream) → Sound m → SoundStream s → Sound (with_stream m k s)
with_sound m k s h sound =
    record {
      count = length-set m.streams k s ∙ h.count;
      each = λ j c. rw (at_put fresh_stream m.streams k j s (λ e. omega (arith, h.count))) (at j c (eqb k j));
    }
  where
    at : (j : ℕ) → j ≤ last_stream → (b : Bool) → SoundStream (cond b s (stream_at m j))
    at j c true = sound
    at j c false = h.each j c

-- a call that replaces one stream where its number is 0
kept : (n : ℕ) (m : Meter) (k : ℕ) (s : Stream) → Sound m → (n ≡ 0 → SoundStream s) → Sound (otherwise m (decided n (with_stream m k s)))
kept zero m k s h new = with_sound m k s h (new refl)
kept (suc n) m k s h new = h

-- the gas of an accepted record
pub sound_gas : (bs : List ℕ) → first_of (record_order bs) ≡ 0 → SoundGas (gas_of bs)
sound_gas bs clear =
    let gas = acceptable bs clear in
    record { pair = (accepted_head bs clear).pair; properties = proper (contents_in bs) gas; air = density_by_air (contents_in bs) gas }

-- the meter after an analysis, accepted or refused, is sound
pub sound_after_analysis : (k : ℕ) (bs : List ℕ) (m : Meter) → Sound m → Sound (after_analysis m k bs)
sound_after_analysis k bs m h =
    let s = stream_at m k in
    kept (first_of (analysis_order k bs s)) m k (analysed s bs) h
    (λ z. let c = clear_analysis k bs s z in record { analysis = sound_gas bs c.clear; totals = (h.each k c.stream).totals })

pub analysis_keeps : AnalysisKeeps
analysis_keeps m k bs v after gives h = subst Sound (sym gives.stands) (sound_after_analysis k bs m h)

-- an energy with a volume w at a value x
sound_energy : {v : ℕ} (w : ℕ) {x : ℕ} (e : Register) → SoundEnergy v e → calorific_low ≤ x → x ≤ calorific_bound → SoundEnergy (v + w) (booked per_mj e (w * x))
sound_energy {v} w {x} e = sound_booked per_mj (omega arith) calorific_low calorific_bound v w x e

pub sound_metered : (s : Stream) (w : ℕ) (a : Option Gas) → s.analysis ≡ a → SoundStream s → s.totals.volume + w ≤ most_total → SoundStream (with_volume a w s)
sound_metered s w None is old total = old
sound_metered s w (Some gas) is old total =
    let t = s.totals in
    let b : SoundGas gas = subst (λ (a : Option Gas). SoundAnalysis a t) is old.analysis in
    let o = old.totals in
    let p = b.properties in
    record {
      analysis = rw is b;
      totals = record {
        volume = total;
        superior = sound_energy w t.superior o.superior p.floored.Hs p.bounded.Hs;
        inferior = sound_energy w t.inferior o.inferior p.floored.Hi p.bounded.Hi;
        order = booked_at_most per_mj (omega arith) w t.inferior t.superior o.order p.order;
        mass = sound_booked per_kg (omega arith) density_low density_bound t.volume w _ t.mass o.mass p.floored.rho p.bounded.rho;
      };
    }

-- and after a volume
pub sound_after_metering : (k v : ℕ) (m : Meter) → Sound m → Sound (after_metering m k v)
sound_after_metering k v m h =
    let s = stream_at m k in
    kept (first_of (metering_order k v s)) m k (metered s v) h
    (λ z. let c = clear_metering k v s z in sound_metered s v s.analysis refl (h.each k c.stream) c.total)

pub metering_keeps : MeteringKeeps
metering_keeps m k w v after gives h = subst Sound (sym gives.stands) (sound_after_metering k w m h)

-- every other stream after a call that replaces one
pub others_stay : (n : ℕ) (m : Meter) (k : ℕ) (s : Stream) (j : ℕ) → (j ≡ k → ⊥) → stream_at (otherwise m (decided n (with_stream m k s))) j ≡ stream_at m j
others_stay zero m k s j e = get_or-set_other m.streams k j s fresh_stream e
others_stay (suc n) m k s j e = refl

others_after_analysis : (k : ℕ) (bs : List ℕ) (m : Meter) (j : ℕ) → (j ≡ k → ⊥) → stream_at (after_analysis m k bs) j ≡ stream_at m j
others_after_analysis k bs m = others_stay (first_of (analysis_order k bs (stream_at m k))) m k (analysed (stream_at m k) bs)

others_after_metering : (k v : ℕ) (m : Meter) (j : ℕ) → (j ≡ k → ⊥) → stream_at (after_metering m k v) j ≡ stream_at m j
others_after_metering k v m = others_stay (first_of (metering_order k v (stream_at m k))) m k (metered (stream_at m k) v)

pub analysis_leaves_others : AnalysisLeavesOthers
analysis_leaves_others m k bs v after gives j e = rw gives.stands (others_after_analysis k bs m j e)

pub metering_leaves_others : MeteringLeavesOthers
metering_leaves_others m k w v after gives j e = rw gives.stands (others_after_metering k w m j e)

-- what every call keeps, a day file keeps
module _ (k : ℕ) (P : Meter → Type 0) (analysis : (m : Meter) (bs : List ℕ) → P m → P (after_analysis m k bs)) (metering : (m : Meter) (v : ℕ) → P m → P (after_metering m k v)) where
  by_day : (bs : List (List ℕ)) (vs : List ℕ) (m : Meter) → P m → P (meter_day k m bs vs).left
  by_day [] vs m h = h
  by_day (b ∷ bs) [] m h = h
  by_day (b ∷ bs) (v ∷ vs) m h = by_day bs vs (after_metering (after_analysis m k b) k v) (metering (after_analysis m k b) v (analysis m b h))

  pub after_day : (file vs : List ℕ) (m : Meter) → P m → P (otherwise m (left_in (day_of m k file vs)))
  after_day file vs m h = go (first_of (day_order k file (length vs)))
    where
      go : (n : ℕ) → P (otherwise m (left_in (decided n (meter_day k m (blocks_of file) vs))))
      go zero = by_day (blocks_of file) vs m h
      go (suc n) = h

pub sound_after_day : (k : ℕ) (file vs : List ℕ) (m : Meter) → Sound m → Sound (otherwise m (left_in (day_of m k file vs)))
sound_after_day k file vs m h = after_day k Sound (λ n bs. sound_after_analysis k bs n) (λ n v. sound_after_metering k v n) file vs m h

pub day_keeps : DayKeeps
day_keeps m k file vs r after gives h = subst Sound (sym gives.stands) (sound_after_day k file vs m h)

pub day_leaves_others : DayLeavesOthers
day_leaves_others m k file vs r after gives j e =
    rw gives.stands
    (after_day k (λ (n : Meter). stream_at n j ≡ stream_at m j) (λ n bs h. others_after_analysis k bs n j e ∙ h) (λ n v h. others_after_metering k v n j e ∙ h) file vs m refl)

pub zero_is_accepted : ZeroIsAccepted
zero_is_accepted m k h b some =
    rw (le-ltb last_stream k b, some, le-ltb most_total ((stream_at m k).totals.volume + 0) (omega (arith, (h.each k b).totals.volume)))

-- a register of a volume total
parts_fit : (u floor ceiling v : ℕ) (e : Register) → 0 < u → u < 2 ^ 64 → v * ceiling < 2 ^ 64 * u → SoundRegister u floor ceiling v e → PartsFit e
parts_fit u floor ceiling v e some small most s = record { whole = whole_below u some (2 ^ 64) floor ceiling v e s most; rest = lt_trans s.rest small }

pub registers_fit : RegistersFit
registers_fit =
    record {
      parts = λ t s.
          record {
            superior = energy t.superior s.volume s.superior;
            inferior = energy t.inferior s.volume s.inferior;
            mass = parts_fit per_kg density_low density_bound t.volume t.mass (omega arith) (omega arith) (omega (arith, s.volume)) s.mass;
          };
      booking = λ v h low value. omega (arith, mul-le-mul low (le_of_lt value));
    }
  where
    energy : {v : ℕ} (e : Register) → v ≤ most_total → SoundEnergy v e → PartsFit e
    energy {v} e total = parts_fit per_mj calorific_low calorific_bound v e (omega arith) (omega arith) (omega arith)

mean_at_most : (m : Meter) (k h : ℕ) (e : Register) → Sound m → (SoundTotals (stream_at m k).totals → SoundEnergy (stream_at m k).totals.volume e) →
    mean_reading k (stream_at m k) e ≡ accepted h → h ≤ calorific_bound
mean_at_most m k h r sound of e =
    let s = stream_at m k in
    let v = s.totals.volume in
    let a = decided_accepted (first_of (mean_order k s)) (mean_in r v) h e in
    let o = unmet (mean_order k s) tt a.0 in
    let z = eqb-false v 0 (o 18) in
    let l = (sound.each k (ltb-false last_stream k (o 13))).totals in
    subst (λ (x : ℕ). x ≤ calorific_bound) a.1 (mean_bounded r v (of l) l.volume (omega arith))

pub no_mean_above_ceiling : NoMeanAboveCeiling
no_mean_above_ceiling =
    record {
      superior = λ m k h sound. mean_at_most m k h (stream_at m k).totals.superior sound (λ l. l.superior);
      inferior = λ m k h sound. mean_at_most m k h (stream_at m k).totals.inferior sound (λ l. l.inferior);
    }
