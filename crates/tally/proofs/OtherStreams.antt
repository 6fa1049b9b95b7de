-- What a list of calls leaves for chosen streams, and the answers to the calls that name them, are those of these calls alone, on the
-- tally; and at most one stream is alike to what the tally keeps for one.
use mathlib.Core.Path.{◌≡◌, refl, sym, ap, subst, ◌∙◌}
use mathlib.Core.Bool.{Bool, true, false, not, cond, true≢false}
use mathlib.Core.List.{List, [], ◌∷◌, ◌++◌, map}
use mathlib.Core.Option.{Option, none, some}
use Prim.Native.Nat.{ℕ, zero, suc, ◌≤◌, ◌<◌}
use native.Mathlib.Omega.{arith}
use borrow.Author.Tests.{eq-eqb, le-ltb}
use lib.ListN.{length, length-set, get_or, set}
use lib.Seq.{get_or-set_other}
use denote.Ref.{MutBor}
use Rattle.std.specs.Prelude.{Option as InForce, Some, None}
use Rattle.std.proofs.lemmas.List.{ext_get_or}
use Rattle.records.specs.Order.{refused, first_of, decided, otherwise}
use Rattle.day_file.specs.Format.{blocks_of}
use Rattle.properties.specs.Chain.{six_of}
use Rattle.properties.specs.Answers.{numbers}
use Rattle.properties.proofs.Outcomes.{clear_of_accepted}
use Rattle.meter.specs.declared.Gas.{Gas}
use Rattle.meter.specs.declared.Register.{Register}
use Rattle.meter.specs.declared.StreamTotals.{StreamTotals}
use Rattle.meter.specs.declared.Stream.{Stream}
use Rattle.meter.specs.declared.Meter.{Meter}
use Rattle.meter.specs.State.{fresh_stream, fresh_meter, stream_at}
use Rattle.meter.specs.Calls.{gas_of}
use Rattle.lent_meter.specs.Words.{packed_stream, packed}
use Rattle.meter.proofs.Analyses.{gas_is}
use Rattle.lent_meter.proofs.Outcomes.{row_is}
use Rattle.lent_meter.proofs.Kept.{fresh_is_lent}
use Rattle.tally.specs.Tally.{last_stream, Ask, analysis, metering, totals, mean, Call, on, Parts, Totals, totals_are, Answer, StreamTally, fresh_stream_tally, Tally, fresh_tally, tally_at, with_tally, above_last, order_of, left_by, given_by, number_for, answer_to, tally_after, answers_to, tallied, day_order_of, day_pairs, day_calls, Listed, single, day, counts_as, single_calls, Reply, answered, counted, counted_in, reply_to, replies_to}
use Rattle.tally.specs.Demand.{SameInForce, nothing, known}
use Rattle.tally.specs.Run.{totals_given, listed, replies}
use Rattle.tally.specs.LentRun.{Words, LentDemand}
use Rattle.tally.specs.OtherStreams.{calls_on, answers_on, stream_of, listed_on, replies_on, only, of_the_meter, RanFresh, OtherStreams, ChosenStreams, ListedOnStreams, AsIfAlone, AboveRefused, reply_13, AboveReplied, AboveChangesNothing, LentRanFresh, LentOtherStreams, LentListedOnStreams, MixedOtherStreams, LentAboveRefused, LentAboveReplied, LentAboveChangesNothing, EveryListRanFresh}
use Rattle.tally.proofs.Alike.{Alike, totals_alike}
use Rattle.tally.proofs.Demand.{from_fresh, demand3}
use Rattle.tally.proofs.Exists.{to_mut, has_fresh, every_list_has_run}
use Rattle.tally.proofs.LentRuns.{lent_demand3}
use Rattle.tally.proofs.LentExists.{every_list_has_lent_run}

-- two lists of one length that are alike at a place stay so when the same is put at any place of both
put_both : {A : Type 0} (d : A) (l r : List A) (k j : ℕ) (x : A) → length l ≡ length r → get_or l j d ≡ get_or r j d → get_or (set l k x) j d ≡ get_or (set r k x) j d
put_both d [] [] k j x h e = e
put_both d [] (b ∷ r) k j x h e = absurd (omega (arith, h))
put_both d (a ∷ l) [] k j x h e = absurd (omega (arith, h))
put_both d (a ∷ l) (b ∷ r) zero zero x h e = refl
put_both d (a ∷ l) (b ∷ r) zero (suc j) x h e = e
put_both d (a ∷ l) (b ∷ r) (suc k) zero x h e = e
put_both d (a ∷ l) (b ∷ r) (suc k) (suc j) x h e = put_both d l r k j x (omega (arith, h)) e

module _ (chosen : ℕ → Bool) where
  -- two tallies keep the same for each chosen stream
  record Agree (t u : Tally) : Type 0 where
    pub count : length t.streams ≡ length u.streams
    pub each : (k : ℕ) → chosen k ≡ true → tally_at t k ≡ tally_at u k

  put_in_both : {t u : Tally} → Agree t u → (n k : ℕ) (s : StreamTally) → Agree (otherwise t (decided n (with_tally t k s))) (otherwise u (decided n (with_tally u k s)))
  put_in_both {t} {u} a zero k s =
      record {
        count = length-set t.streams k s ∙ a.count ∙ sym (length-set u.streams k s);
        each = λ j c. put_both fresh_stream_tally t.streams u.streams k j s a.count (a.each j c);
      }
  put_in_both a (suc n) k s = a

  put_in_first : {t u : Tally} → Agree t u → (n k : ℕ) (s : StreamTally) → chosen k ≡ false → Agree (otherwise t (decided n (with_tally t k s))) u
  put_in_first {t} {u} a zero k s other =
      record {
        count = length-set t.streams k s ∙ a.count;
        each = λ j c.
            get_or-set_other t.streams k j s fresh_stream_tally (λ e. true≢false (sym c ∙ ap chosen e ∙ other)) ∙ a.each j c;
      }
  put_in_first a (suc n) k s other = a

  -- a call on a chosen stream
  module _ {t u : Tally} (a : Agree t u) (c : Call) (named : chosen c.stream ≡ true) where
    same_answer : answer_to t c ≡ answer_to u c
    same_answer = ap (λ (s : StreamTally). decided (first_of (order_of c.stream c.ask s)) (given_by c.ask s)) (a.each c.stream named)

    same_after : Agree (tally_after t c) (tally_after u c)
    same_after =
        subst (λ (s : StreamTally). Agree (tally_after t c) (otherwise u (decided (first_of (order_of c.stream c.ask s)) (with_tally u c.stream (left_by c.ask s)))))
        (a.each c.stream named) (put_in_both a (number_for t c) c.stream (left_by c.ask (tally_at t c.stream)))

  -- the calls cs on the tally t, and those of them on chosen streams on the tally u
  record Projected (t u : Tally) (cs chosen-calls : List Call) (rs : List Answer) : Type 0 where
    pub agree : Agree (tallied t cs) (tallied u chosen-calls)
    pub answers : rs ≡ answers_to u chosen-calls

  projected : (cs : List Call) {t u : Tally} → Agree t u → Projected t u cs (calls_on chosen cs) (answers_on chosen cs (answers_to t cs))
  projected [] a = record { agree = a; answers = refl }
  projected (c ∷ cs) {t} {u} a = go (chosen c.stream) refl (calls_on chosen cs) (λ v b. projected cs b)
    where
      after : Tally
      after = tally_after t c

      go : (b : Bool) → chosen c.stream ≡ b → (ds : List Call) {rs : List Answer} → ((v : Tally) → Agree after v → Projected after v cs ds rs) →
          Projected t u (c ∷ cs) (cond b (c ∷ ds) ds) (cond b (answer_to t c ∷ rs) rs)
      go true e ds rest = let r = rest (tally_after u c) (same_after a c e) in record { agree = r.agree; answers = cc (same_answer a c e, r.answers) }
      go false e ds rest =
          let r = rest u (put_in_first a (number_for t c) c.stream (left_by c.ask (tally_at t c.stream)) e) in
          record { agree = r.agree; answers = r.answers }

  -- of all the calls of a list on one stream, all or none are chosen
  pairs_chosen : (k : ℕ) (b : Bool) → chosen k ≡ b → (bs : List (List ℕ)) (vs : List ℕ) → calls_on chosen (day_pairs k bs vs) ≡ cond b (day_pairs k bs vs) []
  pairs_chosen k true e [] vs = refl
  pairs_chosen k false e [] vs = refl
  pairs_chosen k true e (x ∷ bs) [] = refl
  pairs_chosen k false e (x ∷ bs) [] = refl
  pairs_chosen k true e (x ∷ bs) (v ∷ vs) = rw e (ap (λ (cs : List Call). on k (analysis x) ∷ on k (metering v) ∷ cs) (pairs_chosen k true e bs vs))
  pairs_chosen k false e (x ∷ bs) (v ∷ vs) = rw e (pairs_chosen k false e bs vs)

  counted_chosen : (l : Listed) (b : Bool) → chosen (stream_of l) ≡ b → calls_on chosen (counts_as l) ≡ cond b (counts_as l) []
  counted_chosen (single c) true e = rw e
  counted_chosen (single c) false e = rw e
  counted_chosen (day k file vs) b e = go (first_of (day_order_of k file vs))
    where
      go : (n : ℕ) → calls_on chosen (otherwise [] (decided n (day_pairs k (blocks_of file) vs))) ≡ cond b (otherwise [] (decided n (day_pairs k (blocks_of file) vs))) []
      go zero = pairs_chosen k b e (blocks_of file) vs
      go (suc n) = cond_same b
        where
          cond_same : (b : Bool) → ◌≡◌ {A = List Call} [] (cond b [] [])
          cond_same true = refl
          cond_same false = refl

  -- so the calls of the chosen part of a list are the chosen part of its calls
  calls_join : (cs ds : List Call) → calls_on chosen (cs ++ ds) ≡ calls_on chosen cs ++ calls_on chosen ds
  calls_join [] ds = refl
  calls_join (c ∷ cs) ds = go (chosen c.stream) (calls_on chosen cs) (calls_join cs ds)
    where
      go : (b : Bool) (ys : List Call) {xs : List Call} → xs ≡ ys ++ calls_on chosen ds → cond b (c ∷ xs) xs ≡ cond b (c ∷ ys) ys ++ calls_on chosen ds
      go true ys e = ap (◌∷◌ c) e
      go false ys e = e

  calls_of_listed : (ls : List Listed) → calls_on chosen (single_calls ls) ≡ single_calls (listed_on chosen ls)
  calls_of_listed [] = refl
  calls_of_listed (l ∷ ls) =
      calls_join (counts_as l) (single_calls ls)
      ∙ go (chosen (stream_of l)) refl (listed_on chosen ls) (calls_of_listed ls)
    where
      go : (b : Bool) → chosen (stream_of l) ≡ b → (ms : List Listed) {xs : List Call} → xs ≡ single_calls ms →
          calls_on chosen (counts_as l) ++ xs ≡ single_calls (cond b (l ∷ ms) ms)
      go true e ms rest = rw (counted_chosen l true e, rest)
      go false e ms rest = rw (counted_chosen l false e, rest)

  itself : (t : Tally) → Agree t t
  itself t = record { count = refl; each = λ k c. refl }

  -- one listed call on a chosen stream, and one on another
  module _ {t u : Tally} (a : Agree t u) (l : Listed) where
    same_reply : chosen (stream_of l) ≡ true → reply_to t l ≡ reply_to u l
    same_reply named = go l named
      where
        same_answers : (cs : List Call) → calls_on chosen cs ≡ cs → answers_to t cs ≡ answers_to u cs
        same_answers cs e =
            ap (answers_to t) (sym e) ∙ sym (projected cs (itself t)).answers
            ∙ (projected cs a).answers ∙ ap (answers_to u) e

        go : (l : Listed) → chosen (stream_of l) ≡ true → reply_to t l ≡ reply_to u l
        go (single c) named = ap answered (same_answer a c named)
        go (day k file vs) named =
            let cs = day_calls k file vs in
            ap (λ (rs : List Answer). counted (decided (first_of (day_order_of k file vs)) (counted_in cs rs))) (same_answers cs (counted_chosen (day k file vs) true named))

    same_after_listed : chosen (stream_of l) ≡ true → Agree (tallied t (counts_as l)) (tallied u (counts_as l))
    same_after_listed named =
        subst (λ (cs : List Call). Agree (tallied t (counts_as l)) (tallied u cs)) (counted_chosen l true named) (projected (counts_as l) a).agree

    other_after_listed : chosen (stream_of l) ≡ false → Agree (tallied t (counts_as l)) u
    other_after_listed other =
        subst (λ (cs : List Call). Agree (tallied t (counts_as l)) (tallied u cs)) (counted_chosen l false other) (projected (counts_as l) a).agree

  replies_projected : (ls : List Listed) {t u : Tally} → Agree t u → replies_on chosen ls (replies_to t ls) ≡ replies_to u (listed_on chosen ls)
  replies_projected [] a = refl
  replies_projected (l ∷ ls) {t} {u} a = go (chosen (stream_of l)) refl (listed_on chosen ls) (λ v b. replies_projected ls b)
    where
      after : Tally
      after = tallied t (counts_as l)

      go : (b : Bool) → chosen (stream_of l) ≡ b → (ms : List Listed) {given : List Reply} → ((v : Tally) → Agree after v → given ≡ replies_to v ms) →
          cond b (reply_to t l ∷ given) given ≡ replies_to u (cond b (l ∷ ms) ms)
      go true e ms rest = cc (same_reply a l e, rest (tallied u (counts_as l)) (same_after_listed a l e))
      go false e ms rest = rest u (other_after_listed a l e)

-- the gas in force is that of the tally's record
abbrev gas_in_force : Option (List ℕ) → InForce Gas
gas_in_force none = None
gas_in_force (some bs) = Some (gas_of bs)

gas_found : {i : InForce Gas} {o : Option (List ℕ)} → SameInForce i o → i ≡ gas_in_force o
gas_found nothing = refl
gas_found (known bs gas ec em e) = ap Some (gas_is bs gas ec em (sym (clear_of_accepted six_of bs (numbers gas.properties) e).1))

same_given : {t u : Totals} → totals_are t ≡ totals_are u → t ≡ u
same_given e = cc

abbrev register_from : Parts → Register
register_from p = record { whole = p.whole; rest = p.rest }

abbrev totals_from : Totals → StreamTotals
totals_from x =
    record { volume = x.volume; superior = register_from x.superior; inferior = register_from x.inferior; mass = register_from x.mass }

same_totals : {t u : StreamTotals} → totals_given t ≡ totals_given u → t ≡ u
same_totals e = ap totals_from (same_given e)

-- at most one stream is alike to what the tally keeps
same_stream : {s r : Stream} {l : StreamTally} → Alike s l → Alike r l → s ≡ r
same_stream {s} {r} {l} a b =
    let gas = gas_found a.in_force ∙ sym (gas_found b.in_force) in
    let given = same_totals (totals_alike s l a ∙ sym (totals_alike r l b)) in
    λ i. record { analysis = gas i; totals = given i }

pub as_if_alone : AsIfAlone
as_if_alone chosen cs rs m a =
    let p = projected chosen cs (itself chosen fresh_tally) in
    record { answers = ap (answers_on chosen cs) (from_fresh a.made a.ran).answers ∙ p.answers; tally = p.agree.each }

pub chosen_streams : ChosenStreams
chosen_streams chosen cs ds rs ss m n a b same =
    let p = as_if_alone chosen cs rs m a in
    let q = as_if_alone chosen ds ss n b in
    record {
      answers = p.answers ∙ ap (answers_to fresh_tally) same ∙ sym q.answers;
      stored = λ k low c.
          let tally : tally_at (tallied fresh_tally cs) k ≡ tally_at (tallied fresh_tally ds) k =
          p.tally k c ∙ ap (λ (l : List Call). tally_at (tallied fresh_tally l) k) same ∙ sym (q.tally k c) in
          record {
            stream = same_stream (subst (Alike (stream_at m k)) tally ((from_fresh a.made a.ran).linked.each k)) ((from_fresh b.made b.ran).linked.each k);
            tally = tally;
          };
    }

-- the replies to the calls on chosen streams, of a run from a fresh meter
listed_alone : (chosen : ℕ → Bool) {cs : List Call} {rs : List Answer} {m : Meter} (a : RanFresh cs rs m) →
    replies_on chosen (listed a.ran) (replies a.ran) ≡ replies_to fresh_tally (listed_on chosen (listed a.ran))
listed_alone chosen {cs} {rs} {m} a =
    let d = demand3 a.first m cs rs a.made a.ran in
    ap (replies_on chosen (listed a.ran)) d.replies_are ∙ replies_projected chosen (listed a.ran) (itself chosen fresh_tally)

calls_alone : (chosen : ℕ → Bool) {cs : List Call} {rs : List Answer} {m : Meter} (a : RanFresh cs rs m) →
    calls_on chosen cs ≡ single_calls (listed_on chosen (listed a.ran))
calls_alone chosen {cs} {rs} {m} a =
    ap (calls_on chosen) (demand3 a.first m cs rs a.made a.ran).calls ∙ calls_of_listed chosen (listed a.ran)

pub listed_on_streams : ListedOnStreams
listed_on_streams chosen cs ds rs ss m n a b same =
    record {
      replies = listed_alone chosen a ∙ ap (replies_to fresh_tally) same ∙ sym (listed_alone chosen b);
      single = chosen_streams chosen cs ds rs ss m n a b (calls_alone chosen a ∙ ap single_calls same ∙ sym (calls_alone chosen b));
    }

pub other_streams : OtherStreams
other_streams k low cs ds rs ss m n a b same =
    let s = chosen_streams (only k) cs ds rs ss m n a b same in
    record { answers = s.answers; stored = s.stored k low (eq-eqb k _ refl) }

-- a stream above 15: 13 is the first condition of every call
refused_above : (k : ℕ) (ask : Ask) (s : StreamTally) → above_last k ≡ true → {A : Type 0} (g : A) → decided (first_of (order_of k ask s)) g ≡ refused 13
refused_above k (analysis bs) s h g = rw h refl
refused_above k (metering v) s h g = rw h refl
refused_above k totals s h g = rw h refl
refused_above k (mean e) s h g = rw h refl

each_refused : (t : Tally) (cs : List Call) → answers_on above_last cs (answers_to t cs) ≡ map (λ (c : Call). refused 13) (calls_on above_last cs)
each_refused t [] = refl
each_refused t (c ∷ cs) = go (above_last c.stream) refl (calls_on above_last cs) (each_refused (tally_after t c) cs)
  where
    go : (b : Bool) → above_last c.stream ≡ b → (ds : List Call) {rs : List Answer} → rs ≡ map (λ (c : Call). refused 13) ds →
        cond b (answer_to t c ∷ rs) rs ≡ map (λ (c : Call). refused 13) (cond b (c ∷ ds) ds)
    go true e ds rest = cc (refused_above c.stream c.ask (tally_at t c.stream) e (given_by c.ask (tally_at t c.stream)), rest)
    go false e ds rest = rest

pub above_refused : AboveRefused
above_refused cs rs m a = ap (answers_on above_last cs) (from_fresh a.made a.ran).answers ∙ each_refused fresh_tally cs

listed_refused : (t : Tally) (l : Listed) → above_last (stream_of l) ≡ true → reply_to t l ≡ reply_13 l
listed_refused t (single c) e = ap answered (refused_above c.stream c.ask (tally_at t c.stream) e (given_by c.ask (tally_at t c.stream)))
listed_refused t (day k file vs) e = rw e

each_replied : (t : Tally) (ls : List Listed) → replies_on above_last ls (replies_to t ls) ≡ map reply_13 (listed_on above_last ls)
each_replied t [] = refl
each_replied t (l ∷ ls) = go (above_last (stream_of l)) refl (listed_on above_last ls) (each_replied (tallied t (counts_as l)) ls)
  where
    go : (b : Bool) → above_last (stream_of l) ≡ b → (ms : List Listed) {given : List Reply} → given ≡ map reply_13 ms →
        cond b (reply_to t l ∷ given) given ≡ map reply_13 (cond b (l ∷ ms) ms)
    go true e ms rest = cc (listed_refused t l e, rest)
    go false e ms rest = rest

pub above_replied : AboveReplied
above_replied cs rs m a =
    ap (replies_on above_last (listed a.ran)) (demand3 a.first m cs rs a.made a.ran).replies_are ∙ each_replied fresh_tally (listed a.ran)

pub above_changes_nothing : AboveChangesNothing
above_changes_nothing cs ds rs ss m n a b same =
    let s = chosen_streams of_the_meter cs ds rs ss m n a b same in
    let p = (from_fresh a.made a.ran).linked in
    let q = (from_fresh b.made b.ran).linked in
    let stored = λ (k : ℕ) (low : k < 16). s.stored k (omega (arith, low)) (ap not (le-ltb _ k (omega (arith, low)))) in
    let streams : m.streams ≡ n.streams =
    ext_get_or fresh_stream m.streams n.streams (p.sound.count ∙ sym q.sound.count) (λ k low. (stored k (omega (arith, low, p.sound.count))).stream) in
    let tallies : (tallied fresh_tally cs).streams ≡ (tallied fresh_tally ds).streams =
    ext_get_or fresh_stream_tally (tallied fresh_tally cs).streams (tallied fresh_tally ds).streams (p.count ∙ sym q.count)
    (λ k low. (stored k (omega (arith, low, p.count))).tally) in
    record { answers = s.answers; meter = λ i. record { streams = streams i }; tally = λ i. record { streams = tallies i } }

-- a list of calls on words is one on the meter that they hold
module _ {cs : List Call} {rs : List Answer} {w : Words} (a : LentRanFresh cs rs w) where
  held : LentDemand a.new.now cs rs w a.ran
  held = lent_demand3 a.lifetimes a.old a.new cs rs w a.filled a.ran

  on_meter : RanFresh cs rs held.meter
  on_meter = record { first = held.first; made = held.made; ran = held.ran }

  row_held : (k : ℕ) → k ≤ last_stream → get_or w k [] ≡ packed_stream (stream_at held.meter k)
  row_held = row_is held.meter held.demand.sound held.holds

pub mixed_other_streams : MixedOtherStreams
mixed_other_streams k low cs ds rs ss m v a b same =
    let s = other_streams k low cs ds rs ss m (held b).meter a (on_meter b) same in
    record { answers = s.answers; row = ap packed_stream s.stored.stream ∙ sym (row_held b k low) }

pub lent_other_streams : LentOtherStreams
lent_other_streams k low cs ds rs ss w v a b same =
    let s = mixed_other_streams k low cs ds rs ss (held a).meter v (on_meter a) b same in
    record { answers = s.answers; row = row_held a k low ∙ s.row }

pub lent_listed_on_streams : LentListedOnStreams
unfolding on_meter held
lent_listed_on_streams chosen cs ds rs ss w v a b same =
    let x = held a in
    let y = held b in
    let s = listed_on_streams chosen cs ds rs ss x.meter y.meter (on_meter a) (on_meter b)
    (sym (ap (listed_on chosen) x.same_listed) ∙ same ∙ ap (listed_on chosen) y.same_listed) in
    record {
      replies = rw (x.same_listed, x.same_replies, y.same_listed, y.same_replies) s.replies;
      answers = s.single.answers;
      rows = λ k low c. row_held a k low ∙ ap packed_stream (s.single.stored k low c).stream ∙ sym (row_held b k low);
    }

pub lent_above_refused : LentAboveRefused
lent_above_refused cs rs w a = above_refused cs rs (held a).meter (on_meter a)

pub lent_above_replied : LentAboveReplied
unfolding on_meter held
lent_above_replied cs rs w a = let h = held a in rw (h.same_listed, h.same_replies) (above_replied cs rs h.meter (on_meter a))

pub lent_above_changes_nothing : LentAboveChangesNothing
lent_above_changes_nothing cs ds rs ss w v a b same =
    let s = above_changes_nothing cs ds rs ss (held a).meter (held b).meter (on_meter a) (on_meter b) same in
    record { answers = s.answers; words = (held a).holds ∙ ap packed s.meter ∙ sym (held b).holds }

pub every_list_ran_fresh : EveryListRanFresh
every_list_ran_fresh =
    record {
      on_meter = λ ls.
          let r = every_list_has_run has_fresh.meter ls in
          record {
            answers = r.answers;
            meter = r.meter;
            ran = record { first = has_fresh.meter; made = has_fresh.returns; ran = r.run };
            as_listed = r.as_listed;
          };
      on_words = λ ls.
          let w : MutBor Words = to_mut (packed fresh_meter) in
          let r = every_list_has_lent_run w.now ls fresh_is_lent in
          record {
            answers = r.answers;
            words = r.words;
            ran = record { lifetimes = ([], tt); old = w; new = w; filled = λ p. refl; ran = r.run };
            as_listed = r.as_listed;
          };
    }
