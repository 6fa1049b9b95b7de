-- One call stays as its order does; so does a list of calls.
use mathlib.Core.Path.{◌≡◌, refl, ap, ◌∙◌}
use mathlib.Core.Bool.{false}
use mathlib.Core.List.{List, [], ◌∷◌, ◌++◌}
use Prim.Native.Nat.{ℕ}
use Rattle.records.specs.Order.{Order, first_of, decided, otherwise}
use Rattle.records.specs.Format.{combustion_in, metering_in}
use Rattle.records.specs.HydrogenClass.{classless_record_order}
use Rattle.records.proofs.HydrogenClass.{same_record_order}
use Rattle.tally.specs.Tally.{Ask, analysis, metering, totals, mean, Answer, StreamTally, Tally, fresh_tally, tally_at, with_tally, above_last, other_pair, order_of, left_by, given_by, answers_to, tallied}
use Rattle.tally.specs.ByOrder.{order_by, answer_by, tally_after_by}
use Rattle.tally.specs.HydrogenClass.{ask_in_class, EveryListStays, RunStays, LentRunStays}
use Rattle.tally.proofs.Demand.{demand3}
use Rattle.tally.proofs.LentRuns.{lent_demand3}

same_order : (k : ℕ) (ask : Ask) (s : StreamTally) → ask_in_class ask ≡ false → order_of k ask s ≡ order_by classless_record_order k ask s
same_order k (analysis bs) s e =
    ap (λ (o : Order). (13, above_last k) ∷ o ++ ((14, other_pair s.pair (combustion_in bs) (metering_in bs)) ∷ [])) (same_record_order bs e)
same_order k (metering v) s e = refl
same_order k totals s e = refl
same_order k (mean a) s e = refl

pub every_list_stays : EveryListStays
every_list_stays t [] none = record { answers = refl; after = refl }
every_list_stays t (c ∷ cs) (outside, others) =
    let s = tally_at t c.stream in
    let same = same_order c.stream c.ask s outside in
    let rest = every_list_stays (tally_after_by classless_record_order t c) cs others in
    let left : Order → Tally = λ o. otherwise t (decided (first_of o) (with_tally t c.stream (left_by c.ask s))) in
    let given : Order → Answer = λ o. decided (first_of o) (given_by c.ask s) in
    record {
      answers = ap (λ (o : Order). given o ∷ answers_to (left o) cs) same ∙ ap (λ (rs : List Answer). answer_by classless_record_order t c ∷ rs) rest.answers;
      after = ap (λ (o : Order). tallied (left o) cs) same ∙ rest.after;
    }

pub run_stays : RunStays
run_stays m₀ m cs rs made ran none = (demand3 m₀ m cs rs made ran).answers ∙ (every_list_stays fresh_tally cs none).answers

pub lent_run_stays : LentRunStays
lent_run_stays κs old new cs rs w gave ran none = (lent_demand3 κs old new cs rs w gave ran).demand.answers ∙ (every_list_stays fresh_tally cs none).answers
