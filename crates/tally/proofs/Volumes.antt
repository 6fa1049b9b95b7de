-- The tally's volume of a stream is the sum of the volumes that were accepted for it.
use mathlib.Core.Path.{◌≡◌, refl, ◌∙◌}
use mathlib.Core.Bool.{Bool, true, false, cond, true≢false}
use mathlib.Core.List.{List, [], ◌∷◌}
use mathlib.Core.Option.{Option, none, some}
use Prim.Native.Nat.{ℕ, zero, suc, ◌+◌, ◌≤◌}
use native.Mathlib.Omega.{arith}
use borrow.Author.Tests.{eqb-true}
use lib.Dec.{eqb}
use lib.ListN.{length, length-set}
use Rattle.records.specs.Order.{first_of, refused, accepted, decided, otherwise}
use Rattle.records.proofs.OrderLaws.{unmet}
use Rattle.meter.proofs.Streams.{at_put}
use Rattle.tally.specs.Tally.{last_stream, Ask, analysis, metering, totals, mean, Call, StreamTally, fresh_stream_tally, Tally, tally_at, with_tally, no_record, order_of, metered_by, left_by, given_by, number_for, tally_after, answers_to, tallied}
use Rattle.tally.specs.Demand.{added_by, accepted_volume}

-- an accepted call adds its volume
metered_adds : (o : Option (List ℕ)) (v : ℕ) (s : StreamTally) → no_record o ≡ false → (metered_by o v s).volume ≡ s.volume + v
metered_adds none v s h = elim (true≢false h) [ ]
metered_adds (some bs) v s h = refl

accepted_adds : (k : ℕ) (ask : Ask) (s : StreamTally) → first_of (order_of k ask s) ≡ 0 → (left_by ask s).volume ≡ s.volume + added_by ask (accepted (given_by ask s))
accepted_adds k (analysis bs) s z = omega arith
accepted_adds k (metering v) s z = metered_adds s.in_force v s (unmet (order_of k (metering v) s) tt z 16)
accepted_adds k totals s z = omega arith
accepted_adds k (mean e) s z = omega arith

count_after : (t : Tally) (c : Call) → length t.streams ≡ 16 → length (tally_after t c).streams ≡ 16
count_after t c h = go (number_for t c)
  where
    go : (n : ℕ) → length (otherwise t (decided n (with_tally t c.stream (left_by c.ask (tally_at t c.stream))))).streams ≡ 16
    go zero = length-set t.streams c.stream _ ∙ h
    go (suc n) = h

module _ (k : ℕ) (b : k ≤ last_stream) where
  -- what a call with the number n adds to the stream k
  volume_step : (t : Tally) (c : Call) → length t.streams ≡ 16 → (n : ℕ) → number_for t c ≡ n →
      (tally_at (otherwise t (decided n (with_tally t c.stream (left_by c.ask (tally_at t c.stream))))) k).volume
      ≡ (tally_at t k).volume + cond (eqb c.stream k) (added_by c.ask (decided n (given_by c.ask (tally_at t c.stream)))) 0
  volume_step t c h zero z = rw (at_put fresh_stream_tally t.streams c.stream k new (λ e. omega (arith, h))) (at (eqb c.stream k) refl)
    where
      old : StreamTally
      old = tally_at t c.stream

      new : StreamTally
      new = left_by c.ask old

      at : (b : Bool) → eqb c.stream k ≡ b → (cond b new (tally_at t k)).volume ≡ (tally_at t k).volume + cond b (added_by c.ask (accepted (given_by c.ask old))) 0
      at true e = rw (← eqb-true c.stream k e) (accepted_adds c.stream c.ask old z)
      at false e = omega arith
  volume_step t c h (suc n) z = go (eqb c.stream k)
    where
      go : (x : Bool) → (tally_at t k).volume ≡ (tally_at t k).volume + cond x (added_by c.ask (refused (suc n))) 0
      go true = omega arith
      go false = omega arith

  pub volume_sum : (t : Tally) (cs : List Call) → length t.streams ≡ 16 → (tally_at (tallied t cs) k).volume ≡ (tally_at t k).volume + accepted_volume k cs (answers_to t cs)
  volume_sum t [] h = omega arith
  volume_sum t (c ∷ cs) h = omega (arith, volume_step t c h (number_for t c) refl, volume_sum (tally_after t c) cs (count_after t c h))
