-- Each run of the exported functions on words is a run of the meter that the words hold.
use mathlib.Core.Path.{◌≡◌, refl, sym, ap, subst, ◌∙◌}
use mathlib.Core.Bool.{true}
use mathlib.Core.List.{List, [], ◌∷◌}
use Prim.Native.Nat.{ℕ, zero, suc}
use lib.ListN.{length}
use Rattle.records.specs.Order.{Order, first_of, decided, otherwise, mapped}
use Rattle.records.specs.Answers.{number_of, Returns}
use Rattle.day_file.specs.Format.{blocks_of}
use Rattle.meter.specs.declared.Meter.{Meter}
use Rattle.meter.specs.State.{Sound, fresh_meter, stream_at, with_stream}
use Rattle.meter.specs.Conditions.{analysis_order, metering_order, totals_order, mean_order, day_order}
use Rattle.meter.specs.Calls.{analysed, metered, analysis_of, metering_of, mean_in}
use Rattle.meter.specs.Days.{Day, meter_day, left_in}
use Rattle.meter.proofs.Kept.{fresh_is_sound, sound_after_analysis, sound_after_metering, sound_after_day}
use Rattle.lent_meter.specs.Words.{packed_totals, packed, meter_in}
use Rattle.lent_meter.specs.Lent.{Lent, packed_day}
use Rattle.lent_meter.proofs.Kept.{meter_back, held_after}
use Rattle.tally.specs.Tally.{Call, Given, done, mean_is, Answer, day_calls, Listed, single, day, Reply, answered, counted}
use Rattle.tally.specs.Run.{change_answer, totals_given, day_answers, counted_of, Step, by_analysis, by_metering, by_day, by_totals, by_mean, listed_by, reply_by, Run, ended, after, listed, replies}
use Rattle.tally.specs.LentRun as lent
use Rattle.tally.specs.LentRun.{Words, totals_put, counts_put, LentStep, LentRun, lent_listed_by, lent_reply_by, lent_listed, lent_replies, LentRequired, CheckDecides, LentClaim}
use Rattle.tally.proofs.Energies.{register_of, mean_returned, lent_mean_asked, lent_mean_found}
use Rattle.tally.proofs.Answers.{known, answered_by}
use Rattle.tally.proofs.Demand.{demand3}
use Rattle.tally.proofs.Exists.{to, to_mut, totals_with, totals_means, mean_with, mean_means, verdict_by, call_gives, day_with, day_left, day_gives, day_with_means}

-- words hold a sound meter
record Holds (w : Words) (m : Meter) : Type 0 where
  pub sound : Sound m
  pub same : w ≡ packed m

lent_by : {w : Words} {m : Meter} → Holds w m → Lent w
lent_by {w} {m} h = record { meter = m; sound = h.sound; holds = h.same }

-- the answer that a number, and what was put into lent memory, say
number_decided : {A B : Type 0} (f : A → B) (answer : A) (i : ℕ) → number_of (mapped f (decided i answer)) ≡ i
number_decided f answer zero = refl
number_decided f answer (suc i) = refl

change_answer_lem : (o : Order) → known o ≡ true → {A B : Type 0} (f : A → B) (answer : A) {old new : B} {n : ℕ} →
    Returns (mapped f (decided (first_of o) answer)) old n new → change_answer (verdict_by o) ≡ decided n done
change_answer_lem o h f answer r =
    answered_by {A = Unit {0}} (λ _. done) tt o h ∙ ap (λ (n : ℕ). decided n done) (sym (r.number_is ∙ number_decided f answer (first_of o)))

read_answer : {A B : Type 0} (shown : A → B) (put : B → Given) (given : A → Given) → ((a : A) → given a ≡ put (shown a)) → (i : ℕ) (answer : A) {old new : B} {n : ℕ} →
    Returns (mapped shown (decided i answer)) old n new → mapped given (decided i answer) ≡ decided n (put new)
read_answer shown put given same zero answer r = λ j. decided (sym r.number_is j) ((same answer ∙ ap put (sym r.after_is)) j)
read_answer shown put given same (suc i) answer {new = new} r = ap (λ (n : ℕ). decided n (put new)) (sym r.number_is)

-- what a day file, whose order gives the number i, left of the words and put into the memory for its counts
module _ (d : Day Meter) {w : Words} {c : List ℕ} {n : ℕ} {w₁ : Words} {c₁ : List ℕ} where
  day_put : (i : ℕ) → Returns (mapped packed_day (decided i d)) (w, c) n (w₁, c₁) → decided i (counted_of d.counts) ≡ decided n (counts_put c₁)
  day_put zero r = rw (r.number_is, ap (λ (p : Words × List ℕ). p.1) r.after_is)
  day_put (suc i) r = rw r.number_is

  day_held : (m : Meter) → w ≡ packed m → (i : ℕ) → Returns (mapped packed_day (decided i d)) (w, c) n (w₁, c₁) → w₁ ≡ packed (otherwise m (left_in (decided i d)))
  day_held m same zero r = ap (λ (p : Words × List ℕ). p.0) r.after_is
  day_held m same (suc i) r = ap (λ (p : Words × List ℕ). p.0) r.after_is ∙ same

-- the meter after a step on words, and its step, with the same call and the same reply
record Stepped (m : Meter) (cs : List Call) (rs : List Answer) (w : Words) (l : Listed) (r : Reply) : Type 0 where
  pub meter : Meter
  pub holds : Holds w meter
  pub step : Step m cs rs meter
  pub same_listed : l ≡ listed_by step
  pub same_reply : r ≡ reply_by step

answer_is : {m m₁ : Meter} {c : Call} {a b : Answer} {w : Words} → a ≡ b → Holds w m₁ → (s : Step m (c ∷ []) (a ∷ []) m₁) → single c ≡ listed_by s → answered a ≡ reply_by s →
    Stepped m (c ∷ []) (b ∷ []) w (single c) (answered b)
answer_is {m} {m₁} {c} {a} {b} {w} e h s l r =
    subst (λ (x : Answer). Stepped m (c ∷ []) (x ∷ []) w (single c) (answered x)) e (record { meter = m₁; holds = h; step = s; same_listed = l; same_reply = r })

stepped : {w w₁ : Words} {cs : List Call} {rs : List Answer} (m : Meter) → Holds w m → (s : LentStep w cs rs w₁) → Stepped m cs rs w₁ (lent_listed_by s) (lent_reply_by s)
stepped m h (lent.by_analysis κs w k b n w₁ gave) =
    let o = analysis_order k b.now (stream_at m k) in
    let new = with_stream m k (analysed (stream_at m k) b.now) in
    let words = (gave tt).0 in
    answer_is (change_answer_lem o refl packed new (words m h.sound h.same))
    (record { sound = sound_after_analysis k b.now m h.sound; same = held_after (λ (x : Meter). analysis_of x k b.now) m words h.sound h.same })
    (by_analysis ([], ([], tt)) (to_mut m) k b (verdict_by o) (to_mut (otherwise m (decided (first_of o) new))) (λ p. call_gives o refl m new)) refl refl
stepped m h (lent.by_metering κs w k v n w₁ gave) =
    let o = metering_order k v (stream_at m k) in
    let new = with_stream m k (metered (stream_at m k) v) in
    let words = (gave (lent_by h)).0 in
    answer_is (change_answer_lem o refl packed new (words m h.sound h.same))
    (record { sound = sound_after_metering k v m h.sound; same = held_after (λ (x : Meter). metering_of x k v) m words h.sound h.same })
    (by_metering ([], tt) (to_mut m) k v (verdict_by o) (to_mut (otherwise m (decided (first_of o) new))) (λ p. call_gives o refl m new)) refl refl
stepped m h (lent.by_day κs w k f v c n w₁ c₁ gave) =
    let file = f.now in
    let vs = v.now in
    let i = first_of (day_order k file (length vs)) in
    let d = meter_day k m (blocks_of file) vs in
    let returned = (gave (lent_by h)).0 m h.sound h.same in
    let cs = day_calls k file vs in
    let put = counted (decided n (counts_put c₁.now)) in
    subst (λ (x : Meter). Stepped m cs (day_answers x k file vs) w₁.now (day k file vs) put) (sym (ap meter_in h.same ∙ meter_back m))
    (record {
      meter = day_left m k file vs;
      holds = record { sound = sound_after_day k file vs m h.sound; same = day_held d m h.same i returned };
      step = by_day ([], ([], ([], tt))) (to_mut m) k f v (day_with m k file vs) (to_mut (day_left m k file vs)) (λ p. day_gives m k file vs);
      same_listed = refl;
      same_reply = sym (ap counted (day_with_means m k file vs ∙ day_put d i returned));
    })
stepped m h (lent.by_totals κs w k t n t₁ gave) =
    answer_is
    (ap (mapped totals_given) (totals_means m k)
    ∙ read_answer packed_totals totals_put totals_given (λ x. refl) (first_of (totals_order k)) (stream_at m k).totals (gave tt m h.sound h.same))
    h (by_totals ([], tt) (to m) k (totals_with m k) (λ p. totals_means m k)) refl refl
stepped m h (lent.by_mean e κs w k x n x₁ gave) =
    let s = stream_at m k in
    answer_is
    (ap (mapped mean_is) (mean_means e m k)
    ∙ read_answer (λ (x : ℕ). x) mean_is mean_is (λ x. refl) (first_of (mean_order k s)) (mean_in (register_of e s.totals) s.totals.volume) (lent_mean_found κs w k x e n x₁ gave (lent_by h) m h.sound h.same))
    h (by_mean e ([], tt) (to m) k (mean_with e m k) (mean_returned ([], tt) (to m) k e _ (mean_means e m k))) refl refl

-- the meter after a list on words, and its run
record Ran (m : Meter) (cs : List Call) (rs : List Answer) (w : Words) (ls : List Listed) (given : List Reply) : Type 0 where
  pub meter : Meter
  pub holds : Holds w meter
  pub run : Run m cs rs meter
  pub same_listed : ls ≡ listed run
  pub same_replies : given ≡ replies run

ran : {w w₁ : Words} {cs : List Call} {rs : List Answer} (m : Meter) → Holds w m → (l : LentRun w cs rs w₁) → Ran m cs rs w₁ (lent_listed l) (lent_replies l)
ran m h (lent.ended w) = record { meter = m; holds = h; run = ended m; same_listed = refl; same_replies = refl }
ran m h (lent.after w w₁ w₂ cs₁ cs rs₁ rs s more) =
    let one = stepped m h s in
    let rest = ran one.meter one.holds more in
    record {
      meter = rest.meter;
      holds = rest.holds;
      run = after m one.meter rest.meter cs₁ cs rs₁ rs one.step rest.run;
      same_listed = cc (one.same_listed, rest.same_listed);
      same_replies = cc (one.same_reply, rest.same_replies);
    }

required : {w : Words} → Lent w → LentRequired w
required l =
    record {
      analysis = λ κs r k b e. tt;
      metering = λ κs r k v e. subst Lent (sym e) l;
      day = λ κs r k f v c e. subst Lent (sym e) l;
      totals = λ κs r k t e. tt;
      mean = λ e κs r k x is. lent_mean_asked κs r k x e (subst Lent (sym is) l);
    }

pub check_decides : CheckDecides
check_decides κs w b gave = record { only = λ e. required ((gave tt).only e); always = λ q. (gave tt).always (q.metering κs (to_mut w.now) 0 0 refl) }

pub lent_demand3 : LentClaim
lent_demand3 κs old new cs rs w made run =
    let r = ran fresh_meter (record { sound = fresh_is_sound; same = made tt }) run in
    record {
      first = fresh_meter;
      made = λ p. refl;
      begins = made tt;
      meter = r.meter;
      holds = r.holds.same;
      ran = r.run;
      same_listed = r.same_listed;
      same_replies = r.same_replies;
      demand = demand3 fresh_meter r.meter cs rs (λ p. refl) r.run;
      required = required (lent_by r.holds);
    }
