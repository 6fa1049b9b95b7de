-- What the functions of crates/loonstool, each of which the static library exports with the same contract, did on lent words in a list of
-- calls, and demand 3 of it: each run on words is a run of the meter that the words hold.
use Rattle.std.specs.Prelude.{◌≡◌, Bool, List, [], ◌∷◌, ◌++◌, ℕ, get_or}
use contract.Lifetimes.{Lfts}
use Rattle.std.specs.Borrow.{Bor, MutBor}
use Rattle.records.specs.Order.{decided}
use Rattle.meter.specs.declared.Meter.{Meter}
use Rattle.lent_meter.specs.Words.{packed, meter_in}
use Rattle.lent_meter.specs.Lent.{Lent}
use Rattle.lent_meter.specs.Check.{Tells}
use Rattle.loonstool.proofs.loonstool_meter_fresh.Reads as fresh-reads
use Rattle.loonstool.proofs.loonstool_meter_check.Reads as check-reads
use Rattle.loonstool.proofs.loonstool_meter_analysis.Reads as analysis-reads
use Rattle.loonstool.proofs.loonstool_meter_metering.Reads as metering-reads
use Rattle.loonstool.proofs.loonstool_meter_day.Reads as day-reads
use Rattle.loonstool.proofs.loonstool_meter_totals.Reads as totals-reads
use Rattle.loonstool.proofs.loonstool_meter_mean.Reads as mean-reads
use Rattle.loonstool.proofs.loonstool_meter_mean_inferior.Reads as mean-inferior-reads
use Rattle.tally.specs.Tally.{Energy, superior, inferior, analysis, metering, totals, mean, Call, on, Given, done, totals_are, mean_is, Answer, day_calls, Listed, single, day, single_calls, Counted, Reply, answered, counted}
use Rattle.tally.specs.Run.{FreshReturns, day_answers, Run, listed, replies}
use Rattle.tally.specs.Demand.{Demand3}

abbrev pub Words : Type 0
Words = List (List ℕ)

-- what is known of a call of each function: where its contract's `requires` holds, its `ensures` does. What stands before the result is as
-- it was at the entry, and behind it as it was at the exit
abbrev pub FreshGave : Lfts 1 → MutBor Words → MutBor Words → Type 0
FreshGave κs w w₁ = fresh-reads.Asked κs (w, tt) → fresh-reads.Learnt κs (w, tt) tt (w₁, tt)

abbrev pub CheckGave : Lfts 1 → Bor Words → Bool → Type 0
CheckGave κs w b = check-reads.Asked κs (w, tt) → check-reads.Learnt κs (w, tt) b (w, tt)

abbrev pub AnalysisGave : Lfts 2 → MutBor Words → ℕ → Bor (List ℕ) → ℕ → MutBor Words → Type 0
AnalysisGave κs w k b n w₁ = analysis-reads.Asked κs (w, (k, (b, tt))) → analysis-reads.Learnt κs (w, (k, (b, tt))) n (w₁, (k, (b, tt)))

abbrev pub MeteringGave : Lfts 1 → MutBor Words → ℕ → ℕ → ℕ → MutBor Words → Type 0
MeteringGave κs w k v n w₁ = metering-reads.Asked κs (w, (k, (v, tt))) → metering-reads.Learnt κs (w, (k, (v, tt))) n (w₁, (k, (v, tt)))

abbrev pub DayGave : Lfts 4 → MutBor Words → ℕ → Bor (List ℕ) → Bor (List ℕ) → MutBor (List ℕ) → ℕ → MutBor Words → MutBor (List ℕ) → Type 0
DayGave κs w k f v c n w₁ c₁ = day-reads.Asked κs (w, (k, (f, (v, (c, tt))))) → day-reads.Learnt κs (w, (k, (f, (v, (c, tt))))) n (w₁, (k, (f, (v, (c₁, tt)))))

abbrev pub TotalsGave : Lfts 2 → Bor Words → ℕ → MutBor (List ℕ) → ℕ → MutBor (List ℕ) → Type 0
TotalsGave κs w k t n t₁ = totals-reads.Asked κs (w, (k, (t, tt))) → totals-reads.Learnt κs (w, (k, (t, tt))) n (w, (k, (t₁, tt)))

abbrev pub MeanAsked : Energy → Lfts 2 → Bor Words → ℕ → MutBor ℕ → Type 0
MeanAsked superior κs w k h = mean-reads.Asked κs (w, (k, (h, tt)))
MeanAsked inferior κs w k h = mean-inferior-reads.Asked κs (w, (k, (h, tt)))

abbrev pub MeanGave : Energy → Lfts 2 → Bor Words → ℕ → MutBor ℕ → ℕ → MutBor ℕ → Type 0
MeanGave superior κs w k h n h₁ = MeanAsked superior κs w k h → mean-reads.Learnt κs (w, (k, (h, tt))) n (w, (k, (h₁, tt)))
MeanGave inferior κs w k h n h₁ = MeanAsked inferior κs w k h → mean-inferior-reads.Learnt κs (w, (k, (h, tt))) n (w, (k, (h₁, tt)))

-- what an accepted reading has put into the memory that was lent for it
abbrev pub totals_put : List ℕ → Given
totals_put t =
    totals_are
    (record {
      volume = get_or t 0 0;
      superior = record { whole = get_or t 1 0; rest = get_or t 2 0 };
      inferior = record { whole = get_or t 3 0; rest = get_or t 4 0 };
      mass = record { whole = get_or t 5 0; rest = get_or t 6 0 };
    })

abbrev pub counts_put : List ℕ → Counted
counts_put c = record { analyses = get_or c 0 0; volumes = get_or c 1 0 }

-- one call of a function on words: the number 0 says that it was accepted. The single calls of a day file have the answers that their
-- definitions give on the meter that the words hold
pub data LentStep : Words → List Call → List Answer → Words → Type 0 where
  by_analysis : (κs : Lfts 2) (w : MutBor Words) (k : ℕ) (b : Bor (List ℕ)) (n : ℕ) (w₁ : MutBor Words) → AnalysisGave κs w k b n w₁ →
      LentStep w.now (on k (analysis b.now) ∷ []) (decided n done ∷ []) w₁.now
  by_metering : (κs : Lfts 1) (w : MutBor Words) (k v n : ℕ) (w₁ : MutBor Words) → MeteringGave κs w k v n w₁ →
      LentStep w.now (on k (metering v) ∷ []) (decided n done ∷ []) w₁.now
  by_day : (κs : Lfts 4) (w : MutBor Words) (k : ℕ) (f v : Bor (List ℕ)) (c : MutBor (List ℕ)) (n : ℕ) (w₁ : MutBor Words) (c₁ : MutBor (List ℕ)) →
      DayGave κs w k f v c n w₁ c₁ →
      LentStep w.now (day_calls k f.now v.now) (day_answers (meter_in w.now) k f.now v.now) w₁.now
  by_totals : (κs : Lfts 2) (w : Bor Words) (k : ℕ) (t : MutBor (List ℕ)) (n : ℕ) (t₁ : MutBor (List ℕ)) → TotalsGave κs w k t n t₁ →
      LentStep w.now (on k totals ∷ []) (decided n (totals_put t₁.now) ∷ []) w.now
  by_mean : (e : Energy) (κs : Lfts 2) (w : Bor Words) (k : ℕ) (h : MutBor ℕ) (n : ℕ) (h₁ : MutBor ℕ) → MeanGave e κs w k h n h₁ →
      LentStep w.now (on k (mean e) ∷ []) (decided n (mean_is h₁.now) ∷ []) w.now

-- a list of calls, each on the words as the one before left them
pub data LentRun : Words → List Call → List Answer → Words → Type 0 where
  ended : (w : Words) → LentRun w [] [] w
  after : (w w₁ w₂ : Words) (cs₁ cs : List Call) (rs₁ rs : List Answer) → LentStep w cs₁ rs₁ w₁ → LentRun w₁ cs rs w₂ → LentRun w (cs₁ ++ cs) (rs₁ ++ rs) w₂

-- the call of a step as it was made, and the reply that the number and the lent memory say
abbrev pub lent_listed_by : {w w₁ : Words} {cs : List Call} {rs : List Answer} → LentStep w cs rs w₁ → Listed
lent_listed_by (by_analysis κs w k b n w₁ gave) = single (on k (analysis b.now))
lent_listed_by (by_metering κs w k v n w₁ gave) = single (on k (metering v))
lent_listed_by (by_day κs w k f v c n w₁ c₁ gave) = day k f.now v.now
lent_listed_by (by_totals κs w k t n t₁ gave) = single (on k totals)
lent_listed_by (by_mean e κs w k h n h₁ gave) = single (on k (mean e))

abbrev pub lent_reply_by : {w w₁ : Words} {cs : List Call} {rs : List Answer} → LentStep w cs rs w₁ → Reply
lent_reply_by (by_analysis κs w k b n w₁ gave) = answered (decided n done)
lent_reply_by (by_metering κs w k v n w₁ gave) = answered (decided n done)
lent_reply_by (by_day κs w k f v c n w₁ c₁ gave) = counted (decided n (counts_put c₁.now))
lent_reply_by (by_totals κs w k t n t₁ gave) = answered (decided n (totals_put t₁.now))
lent_reply_by (by_mean e κs w k h n h₁ gave) = answered (decided n (mean_is h₁.now))

-- those of a list
abbrev pub lent_listed : {w w₁ : Words} {cs : List Call} {rs : List Answer} → LentRun w cs rs w₁ → List Listed
lent_listed (ended w) = []
lent_listed (after w w₁ w₂ cs₁ cs rs₁ rs s more) = lent_listed_by s ∷ lent_listed more

abbrev pub lent_replies : {w w₁ : Words} {cs : List Call} {rs : List Answer} → LentRun w cs rs w₁ → List Reply
lent_replies (ended w) = []
lent_replies (after w w₁ w₂ cs₁ cs rs₁ rs s more) = lent_reply_by s ∷ lent_replies more

-- what the contracts require of words, with any other arguments
pub record LentRequired (w : Words) : Type 0 where
  pub analysis : (κs : Lfts 2) (r : MutBor Words) (k : ℕ) (b : Bor (List ℕ)) → r.now ≡ w → analysis-reads.Asked κs (r, (k, (b, tt)))
  pub metering : (κs : Lfts 1) (r : MutBor Words) (k v : ℕ) → r.now ≡ w → metering-reads.Asked κs (r, (k, (v, tt)))
  pub day : (κs : Lfts 4) (r : MutBor Words) (k : ℕ) (f v : Bor (List ℕ)) (c : MutBor (List ℕ)) → r.now ≡ w → day-reads.Asked κs (r, (k, (f, (v, (c, tt)))))
  pub totals : (κs : Lfts 2) (r : Bor Words) (k : ℕ) (t : MutBor (List ℕ)) → r.now ≡ w → totals-reads.Asked κs (r, (k, (t, tt)))
  pub mean : (e : Energy) (κs : Lfts 2) (r : Bor Words) (k : ℕ) (h : MutBor ℕ) → r.now ≡ w → MeanAsked e κs r k h

-- the exported `check` accepts words exactly where what the contracts require of them holds
abbrev pub CheckDecides : Type 0
CheckDecides = (κs : Lfts 1) (w : Bor Words) (b : Bool) → CheckGave κs w b → Tells b (LentRequired w.now)

-- the list cs on the words w₀, with the answers rs and the words w after it: a run of the meter that the words hold, from one that `fresh`
-- returned, so demand 3 holds of the answers and of that meter
pub record LentDemand (w₀ : Words) (cs : List Call) (rs : List Answer) (w : Words) (lent : LentRun w₀ cs rs w) : Type 0 where
  pub first : Meter
  pub made : FreshReturns first
  pub begins : w₀ ≡ packed first
  pub meter : Meter
  pub holds : w ≡ packed meter
  pub ran : Run first cs rs meter
  -- the calls as they were made, and the replies to them, are those of that run
  pub same_listed : lent_listed lent ≡ listed ran
  pub same_replies : lent_replies lent ≡ replies ran
  pub demand : Demand3 first cs rs meter ran
  -- what the contracts require holds after the list, and so before each of its calls too
  pub required : LentRequired w

-- for every list of calls on words that the exported `fresh` has filled
abbrev pub LentClaim : Type 0
LentClaim =
    (κs : Lfts 1) (old new : MutBor Words) (cs : List Call) (rs : List Answer) (w : Words) → FreshGave κs old new →
    (lent : LentRun new.now cs rs w) → LentDemand new.now cs rs w lent

-- the claim is not empty: every list of calls, day files among them, has a run from all words that hold a meter, and there are words
-- that `fresh` has filled
pub record HasLentRun (w : Words) (ls : List Listed) : Type 0 where
  pub answers : List Answer
  pub words : Words
  pub run : LentRun w (single_calls ls) answers words
  pub as_listed : lent_listed run ≡ ls

abbrev pub EveryListHasLentRun : Type 0
EveryListHasLentRun = (w : Words) (ls : List Listed) → Lent w → HasLentRun w ls

pub record HasFreshWords : Type 0 where
  pub words : MutBor Words
  pub gave : (κs : Lfts 1) (old : MutBor Words) → FreshGave κs old words
