-- Every list of calls, compared with its answers by conditions that had no hydrogen class (crates/records/specs/HydrogenClass.antt): where
-- the record of no analysis has 900,000 of hydrogen or more, every answer is the same, and so is the tally after the list.
use Rattle.std.specs.Prelude.{◌≡◌, Bool, false, List, [], ◌∷◌}
use contract.Lifetimes.{Lfts}
use Rattle.std.specs.Borrow.{MutBor}
use Rattle.records.specs.HydrogenClass.{classless_record_order, record_in_class}
use Rattle.tally.specs.Tally.{Ask, analysis, metering, totals, mean, Call, Answer, Tally, fresh_tally, answers_to, tallied}
use Rattle.tally.specs.ByOrder.{answers_by, tallied_by}
use Rattle.meter.specs.declared.Meter.{Meter}
use Rattle.tally.specs.Run.{FreshReturns, Run}
use Rattle.tally.specs.LentRun.{Words, FreshGave, LentRun}

-- an analysis whose record has 900,000 of hydrogen or more
abbrev pub ask_in_class : Ask → Bool
ask_in_class (analysis bs) = record_in_class bs
ask_in_class (metering v) = false
ask_in_class totals = false
ask_in_class (mean e) = false

-- a list has none
abbrev pub NoneInClass : List Call → Type 0
NoneInClass [] = Unit
NoneInClass (c ∷ cs) = (ask_in_class c.ask ≡ false) × NoneInClass cs

-- from any tally, such a list gets its former answers, and leaves the tally that it left
pub record ListStays (t : Tally) (cs : List Call) : Type 0 where
  pub answers : answers_to t cs ≡ answers_by classless_record_order t cs
  pub after : tallied t cs ≡ tallied_by classless_record_order t cs

abbrev pub EveryListStays : Type 0
EveryListStays = (t : Tally) (cs : List Call) → NoneInClass cs → ListStays t cs

-- the same of what the functions of the meter answer, from a meter that `Meter::new` returned, and of what the exported ones answer, on
-- words that the exported `fresh` has filled
abbrev pub RunStays : Type 0
RunStays =
    (m₀ m : Meter) (cs : List Call) (rs : List Answer) → FreshReturns m₀ → Run m₀ cs rs m → NoneInClass cs → rs ≡ answers_by classless_record_order fresh_tally cs

abbrev pub LentRunStays : Type 0
LentRunStays =
    (κs : Lfts 1) (old new : MutBor Words) (cs : List Call) (rs : List Answer) (w : Words) → FreshGave κs old new → LentRun new.now cs rs w → NoneInClass cs →
    rs ≡ answers_by classless_record_order fresh_tally cs
