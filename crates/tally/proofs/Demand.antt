-- Demand 3, for every list of calls from a fresh meter.
use mathlib.Core.Path.{◌≡◌, refl, sym, ap, subst, ◌∙◌}
use mathlib.Core.List.{List}
use Prim.Native.Nat.{ℕ, ◌+◌, ◌*◌, ◌≤◌, ◌<◌}
use native.Mathlib.Nat.{mul-le-mul_right, mul-pos}
use native.Mathlib.Omega.{arith}
use borrow.Author.Tests.{le-ltb, ne_eqb, eq-eqb}
use lib.ListN.{drop}
use denote.Ref.{Bor}
use Rattle.rounding.specs.Near.{near}
use Rattle.rounding.specs.Fraction.{Fraction, whole, divided_by, Within}
use Rattle.rounding.proofs.NearLaws.{near_half}
use Rattle.records.specs.Order.{first_of, accepted, decided}
use Rattle.records.specs.Format.{combustion_in, metering_in, contents_in}
use Rattle.records.specs.Calls.{reading_of}
use Rattle.records.proofs.OrderLaws.{decided_accepted}
use Rattle.properties.proofs.Gas.{every_accepted_record}
use Rattle.meter.specs.declared.Meter.{Meter}
use Rattle.meter.specs.State.{Sound, nothing_booked, fresh_stream, fresh_meter, stream_at}
use Rattle.meter.proofs.Orders.{record_clear}
use Rattle.meter.proofs.Streams.{at_made}
use Rattle.meter.proofs.Kept.{fresh_is_sound}
use Rattle.tally.specs.Tally.{last_stream, per_mj, per_kg, Energy, analysis, Call, done, Answer, StreamTally, account_of, no_account, fresh_stream_tally, Tally, fresh_tally, tally_at, above_last, other_pair, order_of, tally_after, answers_to, tallied, Listed, single_calls, Reply, replies_to}
use Rattle.tally.specs.Run.{FreshReturns, Run, ended, after, listed, replies, by_totals, by_mean}
use Rattle.tally.specs.Demand.{accepted_volume, AcceptedIn, here, later, AnalysisShown, nothing, MeanWithin, no_call, EachLeaves, Claim}
use Rattle.tally.proofs.Energies.{for_both, mean_at_most}
use Rattle.tally.proofs.Alike.{AlikeRegister, AlikeEnergy, Alike}
use Rattle.tally.proofs.Steps.{Linked, required, Next, both, step, first, replied}
use Rattle.tally.proofs.Volumes.{volume_sum}

-- near(n / v) is within t + 1 of x / v, where n is within t × v of x
mean_distance : (t n v : ℕ) (x : Fraction) → 0 < v → Within (whole (t * v)) n x → Within (whole (t + 1)) (near n v) (divided_by x v)
mean_distance t n v x p h =
    let r = near_half n v p in
    record {
      proper = (mul-pos h.proper.0 p, omega arith);
      below = omega (arith, h.below, mul-le-mul_right x.den r.below);
      above = omega (arith, h.above, mul-le-mul_right x.den r.above);
    }

-- the mean of an energy of the stream k
mean_within : (m : Meter) (k : ℕ) (l : StreamTally) (e : Energy) → Sound m → k ≤ last_stream → Alike (stream_at m k) l → MeanWithin l.volume (account_of e l)
mean_within m k l e sound b alike =
    let a = account_of e l in
    let same = alike.energy e in
    record {
      distance = λ p. mean_distance 2 a.booked l.volume a.exact p same.within;
      ceiling = λ p.
          rw (← same.amount, ← alike.volume)
          (mean_at_most m k e _ sound (rw (le-ltb last_stream k b, ne_eqb (stream_at m k).totals.volume 0 (omega (arith, alike.volume)))));
    }

-- a fresh meter beside a fresh tally
fresh_alike : Alike fresh_stream fresh_stream_tally
fresh_alike =
    record {
      in_force = nothing;
      pair = refl;
      volume = refl;
      energy = for_both (AlikeEnergy fresh_stream fresh_stream_tally) (none per_mj (omega arith)) (none per_mj (omega arith));
      mass = none per_kg (omega arith);
    }
  where
    none : (u : ℕ) → 0 < u → AlikeRegister u 0 nothing_booked no_account
    none u some = record { rest = some; amount = omega arith; within = omega arith }

fresh_linked : Linked fresh_meter fresh_tally
fresh_linked =
    record { sound = fresh_is_sound; count = refl; each = λ k. rw (at_made fresh_stream 16 k, at_made fresh_stream_tally 16 k) fresh_alike }

-- a meter that `Meter::new` returned
fresh_start : {m₀ : Meter} → FreshReturns m₀ → Linked m₀ fresh_tally
fresh_start made = rw (made tt) fresh_linked

-- a list of calls
run : {m : Meter} {cs : List Call} {rs : List Answer} {m₂ : Meter} (t : Tally) → Linked m t → Run m cs rs m₂ → Next t m cs rs m₂
run t h (ended m) = record { answers = refl; linked = h; leaves = no_call m }
run t h (after m m₁ m₂ cs₁ cs rs₁ rs s more) = let n = step t h s in both n (run (tallied t cs₁) n.linked more)

-- a list from such a meter
pub from_fresh : {m₀ : Meter} {cs : List Call} {rs : List Answer} {m : Meter} → FreshReturns m₀ → Run m₀ cs rs m → Next fresh_tally m₀ cs rs m
from_fresh made ran = run fresh_tally (fresh_start made) ran

-- what each step leaves
each_leaves : (m : Meter) (cs : List Call) (rs : List Answer) (m₂ : Meter) (t : Tally) → Linked m t → (ran : Run m cs rs m₂) → EachLeaves m cs rs m₂ ran
unfolding EachLeaves
each_leaves m cs rs m₂ t h (ended m₀) = tt
each_leaves m cs rs m₂ t h (after m₀ m₁ m₃ cs₁ cs₂ rs₁ rs₂ s more) =
    let n = step t h s in (n.leaves, each_leaves m₁ cs₂ rs₂ m₃ (tallied t cs₁) n.linked more)

-- each call as it was made, and its reply
record ListReplied (t : Tally) (cs : List Call) (ls : List Listed) (given : List Reply) : Type 0 where
  pub calls : cs ≡ single_calls ls
  pub replies : given ≡ replies_to t ls

list_replied : {m : Meter} {cs : List Call} {rs : List Answer} {m₂ : Meter} (t : Tally) → Linked m t → (ran : Run m cs rs m₂) → ListReplied t cs (listed ran) (replies ran)
list_replied t h (ended m) = record { calls = refl; replies = refl }
list_replied t h (after m m₁ m₂ cs₁ cs rs₁ rs s more) =
    let one = replied t h s in
    let rest = list_replied (tallied t cs₁) (step t h s).linked more in
    record { calls = cc (one.calls, rest.calls); replies = cc (one.calls, one.reply, rest.replies) }

-- an accepted analysis of the list
analysis_shown : (bs : List ℕ) (k : ℕ) (s : StreamTally) → first_of (order_of k (analysis bs) s) ≡ 0 → AnalysisShown bs
analysis_shown bs k s z =
    let clear = record_clear bs (above_last k) (other_pair s.pair (combustion_in bs) (metering_in bs)) z in
    let reads : reading_of bs ≡ accepted (contents_in bs) = ap (λ (n : ℕ). decided n (contents_in bs)) clear in
    record { contents = contents_in bs; reads = reads; shown = every_accepted_record bs (contents_in bs) reads }

analyses : (bs : List ℕ) (t : Tally) {cs : List Call} {rs : List Answer} → rs ≡ answers_to t cs → AcceptedIn bs cs rs → AnalysisShown bs
analyses bs t e (here k cs rs) =
    analysis_shown bs k (tally_at t k) (decided_accepted _ done done (sym (first e))).0
analyses bs t e (later c a cs rs more) = analyses bs (tally_after t c) (ap (drop 1) e) more

pub demand3 : Claim
demand3 m₀ m cs rs made ran =
    let r = from_fresh made ran in
    let t = tallied fresh_tally cs in
    let linked_at = λ (w : Bor Meter) (at : w.now ≡ m). subst (λ (x : Meter). Linked x t) (sym at) r.linked in
    record {
      answers = r.answers;
      calls = (list_replied fresh_tally (fresh_start made) ran).calls;
      replies_are = (list_replied fresh_tally (fresh_start made) ran).replies;
      each = λ k b.
          let l = tally_at t k in
          let a = r.linked.each k in
          record {
            volume =
                omega
                (arith, volume_sum k b fresh_tally cs refl, ap (λ (x : StreamTally). x.volume) (at_made fresh_stream_tally 16 k), ap (accepted_volume k cs) r.answers);
            totals = λ κs w x at got. first (step t (linked_at w at) (by_totals κs w k x got)).answers ∙ rw (le-ltb last_stream k b);
            mean = λ e κs w x at got p. first (step t (linked_at w at) (by_mean e κs w k x got)).answers ∙ rw (le-ltb last_stream k b, ne_eqb l.volume 0 (omega arith));
            no_mean = λ e κs w x at got p. first (step t (linked_at w at) (by_mean e κs w k x got)).answers ∙ rw (le-ltb last_stream k b, eq-eqb l.volume 0 p);
            energy_within = λ e. (a.energy e).within;
            mean_within = λ e. mean_within m k l e r.linked.sound b a;
            mass_within = a.mass.within;
            in_force = a.in_force;
          };
      analyses = λ bs. analyses bs fresh_tally r.answers;
      leaves = each_leaves m₀ cs rs m fresh_tally (fresh_start made) ran;
      required = required m r.linked.sound;
      sound = r.linked.sound;
    }
