-- What is shown of every lent meter.
use mathlib.Core.Path.{◌≡◌, refl, sym, ap, subst, ◌∙◌}
use mathlib.Core.List.{List, [], ◌∷◌, map}
use Prim.Native.Nat.{ℕ, zero, suc}
use Rattle.std.proofs.lemmas.List.{map-set}
use Rattle.records.specs.Order.{Outcome, refused, accepted, decided, otherwise, mapped}
use Rattle.records.specs.Answers.{number_of}
use Rattle.records.proofs.OrderLaws.{otherwise_mapped}
use Rattle.std.specs.Prelude.{Option, Some, None}
use Rattle.meter.specs.declared.Gas.{Gas}
use Rattle.meter.specs.declared.StreamTotals.{StreamTotals}
use Rattle.meter.specs.declared.Stream.{Stream}
use Rattle.meter.specs.declared.Meter.{Meter}
use Rattle.meter.specs.State.{SoundStream, Sound, fresh_meter, with_stream}
use Rattle.meter.specs.Calls.{analysis_of, metering_of}
use Rattle.meter.specs.Days.{Day, turned, left_in, day_of}
use Rattle.meter.proofs.Kept.{fresh_is_sound, sound_after_analysis, sound_after_metering, sound_after_day}
use Rattle.lent_meter.specs.Words.{packed_totals, analysis_words, packed_stream, packed, stream_in, meter_in}
use Rattle.lent_meter.specs.Lent.{LentRow, Lent, OnWords, Leaves}
use Rattle.lent_meter.specs.Kept.{FreshIsLent, AnalysisKeepsLent, MeteringKeepsLent, DayKeepsLent, PackedIsInjective}
use Rattle.lent_meter.proofs.Outcomes.{left_alone, leaves_others}

pub fresh_is_lent : FreshIsLent
fresh_is_lent = record { meter = fresh_meter; sound = fresh_is_sound; holds = refl }

packed_left : (m : Meter) (o : Outcome (Day Meter)) → otherwise (packed m) (left_in (mapped (turned packed) o)) ≡ packed (otherwise m (left_in o))
packed_left m (refused n) = refl
packed_left m (accepted d) = refl

-- the words after a call hold the meter after it
pub held_after : (call : Meter → Outcome Meter) (m : Meter) {n : ℕ} {before after : List (List ℕ)} → OnWords call before n after → Sound m → before ≡ packed m →
    after ≡ packed (otherwise m (call m))
held_after call m on sound holds =
    (on m sound holds).after_is ∙ ap (λ (w : List (List ℕ)). otherwise w (mapped packed (call m))) holds ∙ otherwise_mapped packed m (call m)

module _ (call : Meter → Outcome Meter) (kept : (m : Meter) → Sound m → Sound (otherwise m (call m))) where
  keeps : {n : ℕ} {before after : List (List ℕ)} → OnWords call before n after → Lent before → Lent after
  keeps on l = let m = l.meter in record { meter = otherwise m (call m); sound = kept m l.sound; holds = held_after call m on l.sound l.holds }

pub analysis_keeps_lent : AnalysisKeepsLent
analysis_keeps_lent k bs n before after = keeps (λ (m : Meter). analysis_of m k bs) (sound_after_analysis k bs)

pub day_keeps_lent : DayKeepsLent
day_keeps_lent k file vs r before after on l =
    let m = l.meter in
    let gives = on m l.sound l.holds in
    record {
      meter = otherwise m (left_in (day_of m k file vs));
      sound = sound_after_day k file vs m l.sound;
      holds = gives.stands ∙ ap (λ (w : List (List ℕ)). otherwise w (left_in (mapped (turned packed) (day_of m k file vs)))) l.holds ∙ packed_left m (day_of m k file vs);
    }

pub metering_keeps_lent : MeteringKeepsLent
metering_keeps_lent k v n before after = keeps (λ (m : Meter). metering_of m k v) (sound_after_metering k v)

-- what a call with the number n, which replaces one stream where it is 0, leaves of words that hold a meter
pub leaves_packed : (n : ℕ) (m : Meter) (k : ℕ) (s : Stream) →
    Leaves k (packed m) (number_of (mapped packed (decided n (with_stream m k s)))) (packed (otherwise m (decided n (with_stream m k s))))
leaves_packed zero m k s = subst (Leaves k (packed m) 0) (sym (map-set packed_stream m.streams k s)) (leaves_others k (packed m) (λ h. elim (h refl) [ ]))
leaves_packed (suc n) m k s = left_alone k (packed m) (suc n)

-- a row holds its stream
pub stream_back : (a : Option Gas) (t : StreamTotals) → stream_in (analysis_words a (packed_totals t)) ≡ record { analysis = a; totals = t }
stream_back None t = refl
stream_back (Some gas) t = refl

pub sound_in : {row : List ℕ} → LentRow row → SoundStream (stream_in row)
sound_in l = let s = l.stream in subst SoundStream (sym (ap stream_in l.holds ∙ stream_back s.analysis s.totals)) l.sound

streams_back : (l : List Stream) → map stream_in (map packed_stream l) ≡ l
streams_back [] = refl
streams_back (s ∷ l) = λ i. stream_back s.analysis s.totals i ∷ streams_back l i

pub meter_back : (m : Meter) → meter_in (packed m) ≡ m
meter_back m = λ i. record { streams = streams_back m.streams i }

pub packed_is_injective : PackedIsInjective
packed_is_injective m n e = sym (meter_back m) ∙ ap meter_in e ∙ meter_back n
