-- One call on a meter and on the tally beside it: the answers are the same, and what they leave is alike.
use mathlib.Core.Path.{◌≡◌, refl, sym, ap, subst, ◌∙◌}
use mathlib.Core.Bool.{Bool, true, false, cond, false≢true}
use mathlib.Core.List.{List, [], ◌∷◌, ◌++◌}
use Prim.Native.Nat.{ℕ, zero, suc, ◌+◌, ◌≤◌}
use native.Mathlib.Omega.{arith}
use lib.Dec.{eqb}
use lib.ListN.{length, length-set}
use lib.Seq.{set-get_or}
use Rattle.records.specs.Refusals.{Verdict}
use Rattle.records.specs.Order.{Outcome, refused, accepted, one_accepted, first_of, decided, otherwise, mapped}
use Rattle.records.specs.Answers.{Gives}
use Rattle.records.proofs.OrderLaws.{mapped_decided}
use Rattle.day_file.specs.Format.{blocks_of}
use Rattle.meter.specs.declared.day.Counts.{Counts}
use Rattle.meter.specs.declared.Stream.{Stream}
use Rattle.meter.specs.declared.Meter.{Meter}
use Rattle.meter.specs.State.{Sound, fresh_stream, stream_at, with_stream}
use Rattle.meter.specs.Conditions.{analysis_order, metering_order, totals_order, mean_order}
use Rattle.meter.specs.Calls.{analysed, metered, analysis_of, metering_of, after_analysis, after_metering, mean_in}
use Rattle.meter.specs.Days.{meter_day, day_of, counts_in, left_in, GivesDay}
use Rattle.meter.specs.Answers.{totals_meaning, mean_meaning}
use Rattle.meter.proofs.Orders.{clear_analysis, clear_metering}
use Rattle.meter.proofs.Outcomes.{meaning_mapped}
use Rattle.meter.proofs.Streams.{at_put}
use Rattle.meter.proofs.Kept.{others_stay, sound_after_analysis, sound_after_metering}
use Rattle.tally.specs.Tally.{last_stream, Ask, analysis, metering, totals, mean, Call, on, Given, done, mean_is, Answer, StreamTally, fresh_stream_tally, Tally, tally_at, with_tally, left_by, given_by, number_for, answer_to, tally_after, answers_to, tallied, day_order_of, day_pairs, day_calls, Listed, single, day, counts_as, Reply, answered, counted, counted_in, reply_to}
use Rattle.tally.specs.Run.{DayAnswer, change_answer, totals_given, change_given, pair_answers, day_answers, counted_of, day_reply, Step, by_analysis, by_metering, by_day, by_totals, by_mean, listed_by, reply_by}
use Rattle.tally.specs.Demand.{is_reading, Required, Leaves, StepLeaves, no_call, next_call}
use Rattle.tally.proofs.Energies.{register_of, mean_found}
use Rattle.tally.proofs.Alike.{Alike, analysis_order_lem, metering_order_lem, mean_order_lem, analysis_alike, metering_alike, totals_alike, mean_alike}

-- a meter beside a tally
pub record Linked (m : Meter) (t : Tally) : Type 0 where
  pub sound : Sound m
  pub count : length t.streams ≡ 16
  pub each : (k : ℕ) → Alike (stream_at m k) (tally_at t k)

-- what holds of every meter is all that the contracts require
pub required : (m : Meter) → Sound m → Required m
required m h = record { analysis = λ κs w k b e. tt; metering = λ κs w k v e. tt; day = λ κs w k f v e. tt; totals = λ κs w k e. tt; mean = λ e κs w k is. tt }

-- calls with their answers, from the meter m beside the tally t to the meter m₁
pub record Next (t : Tally) (m : Meter) (cs : List Call) (rs : List Answer) (m₁ : Meter) : Type 0 where
  pub answers : rs ≡ answers_to t cs
  pub linked : Linked m₁ (tallied t cs)
  pub leaves : StepLeaves m cs rs m₁

-- calls one after the other
leaves_both : {m m₁ m₂ : Meter} {cs ds : List Call} {rs ss : List Answer} → StepLeaves m cs rs m₁ → StepLeaves m₁ ds ss m₂ → StepLeaves m (cs ++ ds) (rs ++ ss) m₂
leaves_both (no_call m) more = more
leaves_both (next_call m m₁ m₂ c a cs rs first rest) more = next_call m m₁ _ c a _ _ first (leaves_both rest more)

answers_both : (t : Tally) (cs ds : List Call) → answers_to t (cs ++ ds) ≡ answers_to t cs ++ answers_to (tallied t cs) ds
answers_both t [] ds = refl
answers_both t (c ∷ cs) ds = ap (◌∷◌ (answer_to t c)) (answers_both (tally_after t c) cs ds)

tallied_both : (t : Tally) (cs ds : List Call) → tallied t (cs ++ ds) ≡ tallied (tallied t cs) ds
tallied_both t [] ds = refl
tallied_both t (c ∷ cs) ds = tallied_both (tally_after t c) cs ds

pub both : {t : Tally} {m m₁ m₂ : Meter} {cs ds : List Call} {rs ss : List Answer} → Next t m cs rs m₁ → Next (tallied t cs) m₁ ds ss m₂ → Next t m (cs ++ ds) (rs ++ ss) m₂
both {t} {m} {m₁} {m₂} {cs} {ds} a b =
    record { answers = cc (a.answers, b.answers, answers_both t cs ds); linked = rw (tallied_both t cs ds) b.linked; leaves = leaves_both a.leaves b.leaves }

module _ (m : Meter) (t : Tally) (h : Linked m t) where
  -- one stream is replaced on both sides
  each_with : (k : ℕ) (s : Stream) (l : StreamTally) → k ≤ last_stream → Alike s l → (j : ℕ) → Alike (stream_at (with_stream m k s) j) (tally_at (with_tally t k l) j)
  each_with k s l b a j =
      rw (at_put fresh_stream m.streams k j s (λ e. omega (arith, h.sound.count)), at_put fresh_stream_tally t.streams k j l (λ e. omega (arith, h.count)))
      (at (eqb k j))
    where
      at : (b : Bool) → Alike (cond b s (stream_at m j)) (cond b l (tally_at t j))
      at true = a
      at false = h.each j

  linked_with : (n k : ℕ) (s : Stream) (l : StreamTally) → (n ≡ 0 → (k ≤ last_stream) × Alike s l) → Sound (otherwise m (decided n (with_stream m k s))) →
      Linked (otherwise m (decided n (with_stream m k s))) (otherwise t (decided n (with_tally t k l)))
  linked_with zero k s l new sound = let a = new refl in record { sound = sound; count = length-set t.streams k l ∙ h.count; each = each_with k s l a.0 a.1 }
  linked_with (suc n) k s l new sound = h

  -- one call
  one : (c : Call) {a : Answer} {m₁ : Meter} → a ≡ answer_to t c → Linked m₁ (tally_after t c) → Leaves m c a m₁ → Next t m (c ∷ []) (a ∷ []) m₁
  one c {a} {m₁} answer linked leaves = record { answers = cc; linked = linked; leaves = next_call m m₁ m₁ c a [] [] leaves (no_call m₁) }

  -- one that may change its stream
  changes : (k : ℕ) (ask : Ask) (s : Stream) (n : ℕ) → n ≡ number_for t (on k ask) → (n ≡ 0 → (k ≤ last_stream) × Alike s (left_by ask (tally_at t k))) →
      done ≡ given_by ask (tally_at t k) → is_reading ask ≡ false → Sound (otherwise m (decided n (with_stream m k s))) →
      Next t m (on k ask ∷ []) (change_given (decided n (with_stream m k s)) ∷ []) (otherwise m (decided n (with_stream m k s)))
  changes k ask s n is new gives-done changing sound =
      one (on k ask)
      (mapped_decided (λ (x : Meter). done) n (with_stream m k s) ∙ rw (is, gives-done))
      (rw (sym is) (linked_with n k s (left_by ask (tally_at t k)) new sound))
      (record {
        refusal = refused_keeps n;
        reading = λ e. elim (false≢true (sym changing ∙ e)) [ ];
        others = others_stay n m k s;
      })
    where
      refused_keeps : (n : ℕ) (number : ℕ) → change_given (decided n (with_stream m k s)) ≡ refused number → otherwise m (decided n (with_stream m k s)) ≡ m
      refused_keeps zero number e = let z : ⊥ = cc in elim z [ ]
      refused_keeps (suc n) number e = refl

  -- a reading
  same_tally : (n k : ℕ) → otherwise t (decided n (with_tally t k (tally_at t k))) ≡ t
  same_tally zero k = ap (λ (l : List StreamTally). record { streams = l }) (set-get_or t.streams k fresh_stream_tally)
  same_tally (suc n) k = refl

  reads : {A : Type 0} (f : A → Given) (k : ℕ) (ask : Ask) (o : Outcome A) (n : ℕ) (x : A) → n ≡ number_for t (on k ask) →
      o ≡ decided n x → f x ≡ given_by ask (tally_at t k) → left_by ask (tally_at t k) ≡ tally_at t k → Next t m (on k ask ∷ []) (mapped f o ∷ []) m
  reads f k ask o n x is got same keeps =
      one (on k ask) (ap (mapped f) got ∙ mapped_decided f n x ∙ rw (is, same)) (rw (keeps, same_tally (number_for t (on k ask)) k) h)
      (record { refusal = λ number e. refl; reading = λ e. refl; others = λ j e. refl })

  -- each call, by its definition
  analysis_next : (k : ℕ) (bs : List ℕ) → Next t m (on k (analysis bs) ∷ []) (change_given (analysis_of m k bs) ∷ []) (after_analysis m k bs)
  analysis_next k bs =
      let s = stream_at m k in
      let l = tally_at t k in
      changes k (analysis bs) (analysed s bs) (first_of (analysis_order k bs s)) (ap first_of (analysis_order_lem s l (h.each k) k bs))
      (λ z. ((clear_analysis k bs s z).stream, analysis_alike s l (h.each k) k bs z)) refl refl (sound_after_analysis k bs m h.sound)

  metering_next : (k v : ℕ) → Next t m (on k (metering v) ∷ []) (change_given (metering_of m k v) ∷ []) (after_metering m k v)
  metering_next k v =
      let s = stream_at m k in
      let l = tally_at t k in
      changes k (metering v) (metered s v) (first_of (metering_order k v s)) (ap first_of (metering_order_lem s l (h.each k) k v))
      (λ z. ((clear_metering k v s z).stream, metering_alike s l (h.each k) k v z)) refl refl (sound_after_metering k v m h.sound)

-- the blocks and volumes of a day file one by one
pairs_next : (k : ℕ) (bs : List (List ℕ)) (vs : List ℕ) (m : Meter) (t : Tally) → Linked m t →
    Next t m (day_pairs k bs vs) (pair_answers m k bs vs) (meter_day k m bs vs).left
pairs_next k [] vs m t h = record { answers = refl; linked = h; leaves = no_call m }
pairs_next k (b ∷ bs) [] m t h = record { answers = refl; linked = h; leaves = no_call m }
pairs_next k (b ∷ bs) (v ∷ vs) m t h =
    let a = analysis_next m t h k b in
    let m₁ = after_analysis m k b in
    let t₁ = tally_after t (on k (analysis b)) in
    let q = metering_next m₁ t₁ a.linked k v in
    both a (both q (pairs_next k bs vs (after_metering m₁ k v) (tally_after t₁ (on k (metering v))) q.linked))

-- the counts of a day file are those of its single calls
one_counted : (o : Outcome Meter) → one_accepted o ≡ one_accepted (change_given o)
one_counted (refused n) = refl
one_counted (accepted m) = refl

counts_are : (k : ℕ) (bs : List (List ℕ)) (vs : List ℕ) (m : Meter) →
    counted_of (meter_day k m bs vs).counts ≡ counted_in (day_pairs k bs vs) (pair_answers m k bs vs)
counts_are k [] vs m = refl
counts_are k (b ∷ bs) [] m = refl
counts_are k (b ∷ bs) (v ∷ vs) m =
    let m₁ = after_analysis m k b in
    let rest = counts_are k bs vs (after_metering m₁ k v) in
    λ i.
    record {
      analyses = one_counted (analysis_of m k b) i + (rest i).analyses;
      volumes = one_counted (metering_of m₁ k v) i + (rest i).volumes;
    }

-- a day file: as its single calls, or as none where it is refused
module _ (k : ℕ) (file vs : List ℕ) (m : Meter) (t : Tally) (h : Linked m t) where
  abbrev number : ℕ
  number = first_of (day_order_of k file vs)

  abbrev calls : ℕ → List Call
  calls n = otherwise [] (decided n (day_pairs k (blocks_of file) vs))

  abbrev given_by_number : ℕ → List Answer
  given_by_number n = otherwise [] (decided n (pair_answers m k (blocks_of file) vs))

  by_number : (n : ℕ) → Next t m (calls n) (given_by_number n) (otherwise m (left_in (decided n (meter_day k m (blocks_of file) vs))))
  by_number zero = pairs_next k (blocks_of file) vs m t h
  by_number (suc n) = record { answers = refl; linked = h; leaves = no_call m }

  pub day_next : (r : DayAnswer) (after : Meter) → GivesDay (day_of m k file vs) m r after → Next t m (day_calls k file vs) (day_answers m k file vs) after
  day_next r after gives = subst (Next t m (day_calls k file vs) (day_answers m k file vs)) (sym gives.stands) (by_number number)

  counts_by_number : (n : ℕ) → mapped counted_of (counts_in (decided n (meter_day k m (blocks_of file) vs))) ≡ decided n (counted_in (calls n) (answers_to t (calls n)))
  counts_by_number zero =
      ap accepted (counts_are k (blocks_of file) vs m ∙ ap (counted_in (day_pairs k (blocks_of file) vs)) (pairs_next k (blocks_of file) vs m t h).answers)
  counts_by_number (suc n) = refl

  pub day_replied : (r : DayAnswer) (after : Meter) → GivesDay (day_of m k file vs) m r after → day_reply r ≡ reply_to t (day k file vs)
  day_replied r after gives = ap (λ (o : Outcome Counts). counted (mapped counted_of o)) gives.counts ∙ ap counted (counts_by_number number)

-- what a verdict says, and what stands after it
given : {m : Meter} {o : Outcome Meter} (v : Verdict) {after : Meter} → Gives o m v after → change_answer v ≡ change_given o
given v {after} gives = meaning_mapped (λ (x : Meter). done) v after ∙ ap change_given gives.means

changed : {t : Tally} {m : Meter} {c : Call} {o : Outcome Meter} (v : Verdict) {after : Meter} → Gives o m v after →
    Next t m (c ∷ []) (change_given o ∷ []) (otherwise m o) → Next t m (c ∷ []) (change_answer v ∷ []) after
changed {t} {m} {c} v gives next = rw (given v gives, gives.stands) next

-- one step
pub step : {m : Meter} {cs : List Call} {rs : List Answer} {m₁ : Meter} (t : Tally) → Linked m t → Step m cs rs m₁ → Next t m cs rs m₁
step t h (by_analysis κs w k b r w₁ got) = changed r (got tt) (analysis_next w.now t h k b.now)
step t h (by_metering κs w k v r w₁ got) = changed r (got tt) (metering_next w.now t h k v)
step t h (by_day κs w k f v r w₁ got) = day_next k f.now v.now w.now t h r w₁.now (got tt)
step t h (by_totals κs w k r got) =
    let m = w.now in
    reads m t h totals_given k totals (totals_meaning r) (first_of (totals_order k)) (stream_at m k).totals refl (got tt) (totals_alike (stream_at m k) (tally_at t k) (h.each k)) refl
step t h (by_mean e κs w k r got) =
    let m = w.now in
    let s = stream_at m k in
    let l = tally_at t k in
    reads m t h mean_is k (mean e) (mean_meaning r) (first_of (mean_order k s)) (mean_in (register_of e s.totals) s.totals.volume) (ap first_of (mean_order_lem s l (h.each k) k e)) (mean_found κs w k e r got)
    (mean_alike s l (h.each k) e) refl

-- the first of two lists of answers
pub first : {a b : Answer} {rs ss : List Answer} → a ∷ rs ≡ b ∷ ss → a ≡ b
first e = cc

-- and the calls that it counts as, and the reply
pub record Replied (t : Tally) (cs : List Call) (l : Listed) (r : Reply) : Type 0 where
  pub calls : cs ≡ counts_as l
  pub reply : r ≡ reply_to t l

replied_single : {m m₁ : Meter} {t : Tally} {c : Call} {a : Answer} → Next t m (c ∷ []) (a ∷ []) m₁ → Replied t (c ∷ []) (single c) (answered a)
replied_single n = record { calls = refl; reply = ap answered (first n.answers) }

pub replied : {m : Meter} {cs : List Call} {rs : List Answer} {m₁ : Meter} (t : Tally) → Linked m t → (s : Step m cs rs m₁) → Replied t cs (listed_by s) (reply_by s)
replied t h (by_analysis κs w k b r w₁ got) = replied_single (step t h (by_analysis κs w k b r w₁ got))
replied t h (by_metering κs w k v r w₁ got) = replied_single (step t h (by_metering κs w k v r w₁ got))
replied t h (by_day κs w k f v r w₁ got) = record { calls = refl; reply = day_replied k f.now v.now w.now t h r w₁.now (got tt) }
replied t h (by_totals κs w k r got) = replied_single (step t h (by_totals κs w k r got))
replied t h (by_mean e κs w k r got) = replied_single (step t h (by_mean e κs w k r got))
