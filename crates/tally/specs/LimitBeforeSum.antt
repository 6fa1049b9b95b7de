-- Every list of calls, compared with its answers by the order that tried 9 before 10, 11 and 12 (crates/records/specs/LimitBeforeSum.antt):
-- only refusals of analyses by 9 where one of 10 to 12 holds too differ. Every other answer is the same, and so is the tally after it.
use Rattle.std.specs.Prelude.{◌≡◌, List, [], ◌∷◌, ◌++◌, ℕ}
use contract.Lifetimes.{Lfts}
use Rattle.std.specs.Borrow.{MutBor}
use Rattle.records.specs.Order.{Order, numbers_of, condition_of}
use Rattle.records.specs.LimitBeforeSum.{former_record_order, former_record_numbers, record_limit_number, renumbered}
use Rattle.tally.specs.Tally.{Ask, analysis, metering, totals, mean, Call, Answer, StreamTally, Tally, fresh_tally, order_of, answers_to, tallied}
use Rattle.tally.specs.ByOrder.{order_by, answers_by, tallied_by}
use Rattle.meter.specs.declared.Meter.{Meter}
use Rattle.tally.specs.Run.{FreshReturns, Run}
use Rattle.tally.specs.LentRun.{Words, FreshGave, LentRun}

-- the former order of a call, and what a list of calls was answered by it
abbrev pub former_order_of : ℕ → Ask → StreamTally → Order
former_order_of = order_by former_record_order

abbrev pub former_answers_to : Tally → List Call → List Answer
former_answers_to = answers_by former_record_order

-- it tried the numbers of a record upward between 13 and 14, and each with the condition that it has now
abbrev pub FormerAnalysisNumbers : Type 0
FormerAnalysisNumbers =
    (k : ℕ) (bs : List ℕ) (s : StreamTally) → numbers_of (former_order_of k (analysis bs) s) ≡ 13 ∷ former_record_numbers ++ (14 ∷ [])

abbrev pub FormerConditions : Type 0
FormerConditions = (k : ℕ) (ask : Ask) (s : StreamTally) (n : ℕ) → condition_of n (former_order_of k ask s) ≡ condition_of n (order_of k ask s)

-- the first of 10, 11 and 12 that holds of the record of an analysis, 0 where none does, and for any other call
abbrev pub ask_limit_number : Ask → ℕ
ask_limit_number (analysis bs) = record_limit_number bs
ask_limit_number (metering v) = 0
ask_limit_number totals = 0
ask_limit_number (mean e) = 0

-- former answers to a list of calls as they are now
abbrev pub each_renumbered : List Call → List Answer → List Answer
each_renumbered [] rs = []
each_renumbered (c ∷ cs) [] = []
each_renumbered (c ∷ cs) (r ∷ rs) = renumbered (ask_limit_number c.ask) r ∷ each_renumbered cs rs

-- from any tally, a list of calls gets its former answers so changed, and leaves the tally that it left
pub record ListChange (t : Tally) (cs : List Call) : Type 0 where
  pub answers : answers_to t cs ≡ each_renumbered cs (former_answers_to t cs)
  pub after : tallied t cs ≡ tallied_by former_record_order t cs

abbrev pub EveryListChange : Type 0
EveryListChange = (t : Tally) (cs : List Call) → ListChange t cs

-- the same of what the functions of the meter answer, from a meter that `Meter::new` returned, and of what the exported ones answer, on
-- words that the exported `fresh` has filled
abbrev pub RunChange : Type 0
RunChange = (m₀ m : Meter) (cs : List Call) (rs : List Answer) → FreshReturns m₀ → Run m₀ cs rs m → rs ≡ each_renumbered cs (former_answers_to fresh_tally cs)

abbrev pub LentRunChange : Type 0
LentRunChange =
    (κs : Lfts 1) (old new : MutBor Words) (cs : List Call) (rs : List Answer) (w : Words) → FreshGave κs old new → LentRun new.now cs rs w →
    rs ≡ each_renumbered cs (former_answers_to fresh_tally cs)
