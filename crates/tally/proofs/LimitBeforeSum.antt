-- One call changes as its order does, and leaves the same tally; so does a list of calls.
use mathlib.Core.Path.{◌≡◌, refl, ap, ◌∙◌}
use mathlib.Core.List.{List, [], ◌∷◌}
use Prim.Native.Nat.{ℕ}
use Rattle.records.specs.Order.{first_of, Outcome, refused, accepted, decided, otherwise}
use Rattle.records.specs.Format.{combustion_in, metering_in, lines_in, fractions_in}
use Rattle.records.specs.Conditions.{head_order}
use Rattle.records.specs.LimitBeforeSum.{former_record_order, renumbered}
use Rattle.records.proofs.LimitBeforeSum.{content_change, answer_change, same_conditions}
use Rattle.tally.specs.Tally.{Ask, analysis, metering, totals, mean, Call, Answer, StreamTally, Tally, fresh_tally, tally_at, with_tally, above_last, other_pair, order_of, left_by, given_by, answer_to, tally_after, answers_to, tallied}
use Rattle.tally.specs.ByOrder.{number_by, answer_by, tally_after_by}
use Rattle.tally.specs.LimitBeforeSum.{former_order_of, ask_limit_number, FormerAnalysisNumbers, FormerConditions, EveryListChange, RunChange, LentRunChange}
use Rattle.tally.proofs.Demand.{demand3}
use Rattle.tally.proofs.LentRuns.{lent_demand3}

pub former_analysis_numbers : FormerAnalysisNumbers
former_analysis_numbers k bs s = refl

pub former_conditions : FormerConditions
former_conditions k (analysis bs) s n =
    same_conditions (lines_in bs) (fractions_in bs) ((13, above_last k) ∷ head_order bs) ((14, other_pair s.pair (combustion_in bs) (metering_in bs)) ∷ []) n
former_conditions k (metering v) s n = refl
former_conditions k totals s n = refl
former_conditions k (mean e) s n = refl

-- what is decided by the order of a call
call_change : {A : Type 0} (k : ℕ) (ask : Ask) (s : StreamTally) (a : A) → decided (first_of (order_of k ask s)) a ≡ renumbered (ask_limit_number ask) (decided (first_of (former_order_of k ask s)) a)
call_change k (analysis bs) s a = content_change (lines_in bs) (fractions_in bs) ((13, above_last k) ∷ head_order bs) ((14, other_pair s.pair (combustion_in bs) (metering_in bs)) ∷ []) a refl
call_change k (metering v) s a = answer_change 0 (first_of (order_of k (metering v) s)) a
call_change k totals s a = answer_change 0 (first_of (order_of k totals s)) a
call_change k (mean e) s a = answer_change 0 (first_of (order_of k (mean e) s)) a

same_otherwise : {A : Type 0} (other : A) (limit : ℕ) (o : Outcome A) → otherwise other (renumbered limit o) ≡ otherwise other o
same_otherwise other limit (refused n) = refl
same_otherwise other limit (accepted a) = refl

after_change : (t : Tally) (c : Call) → tally_after t c ≡ tally_after_by former_record_order t c
after_change t c =
    let s = tally_at t c.stream in
    let left = with_tally t c.stream (left_by c.ask s) in
    ap (otherwise t) (call_change c.stream c.ask s left) ∙ same_otherwise t (ask_limit_number c.ask) (decided (number_by former_record_order t c) left)

pub every_list_change : EveryListChange
every_list_change t [] = record { answers = refl; after = refl }
every_list_change t (c ∷ cs) =
    let s = tally_at t c.stream in
    let u = tally_after_by former_record_order t c in
    let rest = every_list_change u cs in
    record {
      answers =
          ap (λ (v : Tally). answer_to t c ∷ answers_to v cs) (after_change t c)
          ∙ ap (λ (r : Answer). r ∷ answers_to u cs) (call_change c.stream c.ask s (given_by c.ask s))
          ∙ ap (λ (rs : List Answer). renumbered (ask_limit_number c.ask) (answer_by former_record_order t c) ∷ rs) rest.answers;
      after = ap (λ (v : Tally). tallied v cs) (after_change t c) ∙ rest.after;
    }

pub run_change : RunChange
run_change m₀ m cs rs made ran = (demand3 m₀ m cs rs made ran).answers ∙ (every_list_change fresh_tally cs).answers

pub lent_run_change : LentRunChange
lent_run_change κs old new cs rs w gave ran = (lent_demand3 κs old new cs rs w gave ran).demand.answers ∙ (every_list_change fresh_tally cs).answers
