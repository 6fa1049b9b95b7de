-- The claim on lent words is not empty: there are fresh words, and every list of calls has a run from all words that hold a meter.
use mathlib.Core.Path.{◌≡◌, refl, sym, subst}
use mathlib.Core.List.{List, [], ◌∷◌, ◌++◌}
use Prim.Native.Nat.{ℕ, zero, suc}
use native.Mathlib.Omega.{arith}
use borrow.Author.Tests.{ltb-false}
use lib.ListN.{length}
use Rattle.records.specs.Order.{Outcome, refused, accepted, first_of, decided, otherwise, mapped}
use Rattle.records.specs.Answers.{number_of, Returns}
use Rattle.records.proofs.OrderLaws.{unmet, otherwise_mapped}
use Rattle.day_file.specs.Format.{blocks_of}
use Rattle.meter.specs.declared.Meter.{Meter}
use Rattle.meter.specs.State.{Sound, fresh_meter, stream_at}
use Rattle.meter.specs.Conditions.{analysis_order, metering_order, day_order}
use Rattle.meter.specs.Days.{Day, stream_day, meter_day, day_of, left_in}
use Rattle.meter.proofs.DayOnMeter.{day_on_meter}
use Rattle.meter.specs.Calls.{analysed, metered, analysis_of, metering_of, totals_of, after_analysis, after_metering}
use Rattle.lent_meter.specs.Words.{packed_totals, packed}
use Rattle.lent_meter.specs.Lent.{Leaves, packed_day}
use Rattle.lent_meter.proofs.Outcomes.{left_alone}
use Rattle.meter.proofs.Kept.{sound_after_analysis, sound_after_metering, sound_after_day}
use Rattle.lent_meter.proofs.Kept.{leaves_packed, packed_is_injective}
use Rattle.tally.specs.Tally.{last_stream, Ask, analysis, metering, totals, mean, on, Answer, Listed, single, day, counts_as, single_calls}
use Rattle.tally.proofs.Energies.{mean_for, lent_mean_gave}
use Rattle.tally.proofs.Exists.{to, to_mut, day_left}
use Rattle.tally.specs.LentRun.{Words, LentStep, by_analysis, by_metering, by_day, by_totals, by_mean, lent_listed_by, ended, after, HasLentRun, EveryListHasLentRun, HasFreshWords}

pub has_fresh_words : HasFreshWords
has_fresh_words = record { words = to_mut (packed fresh_meter); gave = λ κs old p. refl }

-- of the one meter that words hold, said of each
of_each : (m : Meter) (P : Meter → Type 0) → P m → (n : Meter) → Sound n → packed m ≡ packed n → P n
of_each m P p n sound e = subst P (packed_is_injective m n e) p

record HasStep (m : Meter) (l : Listed) : Type 0 where
  pub answers : List Answer
  pub meter : Meter
  pub sound : Sound meter
  pub step : LentStep (packed m) (counts_as l) answers (packed meter)
  pub as_listed : lent_listed_by step ≡ l

-- a call that may change the meter
changes : (m : Meter) (call : Meter → Outcome Meter) (n : Meter) → Sound n → packed m ≡ packed n →
    Returns (mapped packed (call n)) (packed m) (number_of (mapped packed (call m))) (packed (otherwise m (call m)))
changes m call =
    of_each m (λ (x : Meter). Returns (mapped packed (call x)) (packed m) (number_of (mapped packed (call m))) (packed (otherwise m (call m))))
    (record { number_is = refl; after_is = sym (otherwise_mapped packed m (call m)) })

-- a reading, into memory that held `old`
reads : {A B : Type 0} (m : Meter) (shown : A → B) (call : Meter → Outcome A) (old : B) (n : Meter) → Sound n → packed m ≡ packed n →
    Returns (mapped shown (call n)) old (number_of (mapped shown (call m))) (otherwise old (mapped shown (call m)))
reads m shown call old =
    of_each m (λ (x : Meter). Returns (mapped shown (call x)) old (number_of (mapped shown (call m))) (otherwise old (mapped shown (call m))))
    (record { number_is = refl; after_is = refl })

has_single : (m : Meter) → Sound m → (k : ℕ) (ask : Ask) → HasStep m (single (on k ask))
has_single m sound k (analysis bs) =
    record {
      answers = _;
      meter = after_analysis m k bs;
      sound = sound_after_analysis k bs m sound;
      step = by_analysis ([], ([], tt)) (to_mut (packed m)) k (to bs) _ (to_mut (packed (after_analysis m k bs))) (λ p. (changes m (λ (x : Meter). analysis_of x k bs), leaves_packed (first_of (analysis_order k bs (stream_at m k))) m k (analysed (stream_at m k) bs)));
      as_listed = refl;
    }
has_single m sound k (metering v) =
    record {
      answers = _;
      meter = after_metering m k v;
      sound = sound_after_metering k v m sound;
      step = by_metering ([], tt) (to_mut (packed m)) k v _ (to_mut (packed (after_metering m k v))) (λ p. (changes m (λ (x : Meter). metering_of x k v), leaves_packed (first_of (metering_order k v (stream_at m k))) m k (metered (stream_at m k) v)));
      as_listed = refl;
    }
has_single m sound k totals =
    record {
      answers = _;
      meter = m;
      sound = sound;
      step = by_totals ([], ([], tt)) (to (packed m)) k (to_mut []) _ (to_mut _) (λ p. reads m packed_totals (λ (x : Meter). totals_of x k) []);
      as_listed = refl;
    }
has_single m sound k (mean e) =
    record {
      answers = _;
      meter = m;
      sound = sound;
      step = by_mean e ([], ([], tt)) (to (packed m)) k (to_mut 0) _ (to_mut _) (lent_mean_gave ([], ([], tt)) (to (packed m)) k (to_mut 0) e _ (to_mut _) (reads m (λ (x : ℕ). x) (mean_for e k) 0));
      as_listed = refl;
    }

-- what a day file leaves of words that hold a meter, and puts into memory for its counts that held nothing
day_memory : (m : Meter) (o : Outcome (Day Meter)) →
    ◌≡◌ {A = Words × List ℕ} (packed (otherwise m (left_in o)), (otherwise (packed m, []) (mapped packed_day o)).1) (otherwise (packed m, []) (mapped packed_day o))
day_memory m (refused n) = refl
day_memory m (accepted d) = refl

module _ (m : Meter) (sound : Sound m) (k : ℕ) (file vs : List ℕ) where
  day_returns : (n : Meter) → Sound n → packed m ≡ packed n →
      Returns (mapped packed_day (day_of n k file vs)) (packed m, []) (number_of (mapped packed_day (day_of m k file vs)))
      (packed (day_left m k file vs), (otherwise (packed m, []) (mapped packed_day (day_of m k file vs))).1)
  day_returns =
      of_each m
      (λ (x : Meter). Returns (mapped packed_day (day_of x k file vs)) (packed m, []) (number_of (mapped packed_day (day_of m k file vs)))
      (packed (day_left m k file vs), (otherwise (packed m, []) (mapped packed_day (day_of m k file vs))).1))
      (record { number_is = refl; after_is = day_memory m (day_of m k file vs) })

  day_leaves : Leaves k (packed m) (number_of (mapped packed_day (day_of m k file vs))) (packed (day_left m k file vs))
  day_leaves = go (first_of (day_order k file (length vs))) refl
    where
      go : (i : ℕ) → first_of (day_order k file (length vs)) ≡ i →
          Leaves k (packed m) (number_of (mapped packed_day (decided i (meter_day k m (blocks_of file) vs)))) (packed (otherwise m (left_in (decided i (meter_day k m (blocks_of file) vs)))))
      go zero z =
          let low = ltb-false last_stream k (unmet (day_order k file (length vs)) tt z 13) in
          rw (day_on_meter m k low (omega (arith, sound.count)) (blocks_of file) vs) (leaves_packed zero m k (stream_day (stream_at m k) (blocks_of file) vs).left)
      go (suc i) z = left_alone k (packed m) (suc i)

has_step : (m : Meter) → Sound m → (l : Listed) → HasStep m l
has_step m sound (single c) = has_single m sound c.stream c.ask
has_step m sound (day k file vs) =
    record {
      answers = _;
      meter = day_left m k file vs;
      sound = sound_after_day k file vs m sound;
      step = by_day ([], ([], ([], ([], tt)))) (to_mut (packed m)) k (to file) (to vs) (to_mut []) _ (to_mut (packed (day_left m k file vs))) (to_mut _) (λ p. (day_returns m sound k file vs, day_leaves m sound k file vs));
      as_listed = refl;
    }

has_run : (m : Meter) → Sound m → (ls : List Listed) → HasLentRun (packed m) ls
has_run m sound [] = record { answers = []; words = packed m; run = ended (packed m); as_listed = refl }
has_run m sound (l ∷ ls) =
    let s = has_step m sound l in
    let r = has_run s.meter s.sound ls in
    record {
      answers = s.answers ++ r.answers;
      words = r.words;
      run = after (packed m) (packed s.meter) r.words (counts_as l) (single_calls ls) s.answers r.answers s.step r.run;
      as_listed = cc (s.as_listed, r.as_listed);
    }

pub every_list_has_lent_run : EveryListHasLentRun
every_list_has_lent_run w ls l = subst (λ (x : Words). HasLentRun x ls) (sym l.holds) (has_run l.meter l.sound ls)
