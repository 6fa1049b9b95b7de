-- Demand 3: one claim about a whole list of calls from a fresh meter, their answers, and the meter after them.
use Rattle.std.specs.Prelude.{◌≡◌, List, [], ◌∷◌, Bool, true, false, cond, ℕ, ◌+◌, ◌*◌, ◌≤◌, ◌<◌, eqb}
use Rattle.std.proofs.Math.Option.{Option, none, some}
use Rattle.std.specs.Prelude.{Option as InForce, Some, None}
use contract.Lifetimes.{Lfts}
use Rattle.std.specs.Borrow.{Bor, MutBor}
use Rattle.rounding.specs.Near.{near}
use Rattle.rounding.specs.Fraction.{whole, divided_by, Within}
use Rattle.records.specs.Order.{refused, accepted}
use Rattle.records.specs.Format.{Contents, combustion_in, metering_in}
use Rattle.records.specs.Calls.{reading_of}
use Rattle.properties.specs.Chain.{properties_of}
use Rattle.properties.specs.Answers.{numbers}
use Rattle.properties.specs.Quantities.{calorific_bound}
use Rattle.properties.specs.Accepted.{Shown}
use Rattle.meter.specs.declared.Gas.{Gas}
use Rattle.meter.specs.declared.Meter.{Meter}
use Rattle.meter.specs.State.{Sound, stream_at}
use Rattle.tally.specs.Tally.{last_stream, Energy, Ask, analysis, metering, totals, mean, Call, on, done, Answer, Account, StreamTally, account_of, given_by, tally_at, fresh_tally, answers_to, tallied, Listed, single_calls, replies_to}
use Rattle.tally.specs.Run.{TotalsAnswer, MeanAnswer, AnalysisAsks, MeteringAsks, DayAsks, TotalsAsks, MeanAsks, FreshReturns, TotalsReturns, MeanReturns, totals_answer, mean_answer, Run, ended, after, listed, replies}

-- the volume that a call added: that of an accepted metering call
abbrev pub added_by : Ask → Answer → ℕ
added_by ask (refused n) = 0
added_by (analysis bs) (accepted g) = 0
added_by (metering v) (accepted g) = v
added_by totals (accepted g) = 0
added_by (mean e) (accepted g) = 0

-- the sum of the volumes that were accepted for the stream k
abbrev pub accepted_volume : ℕ → List Call → List Answer → ℕ
accepted_volume k [] rs = 0
accepted_volume k (c ∷ cs) [] = 0
accepted_volume k (c ∷ cs) (a ∷ rs) = cond (eqb c.stream k) (added_by c.ask a) 0 + accepted_volume k cs rs

-- an analysis with the record bs stands in the list, and was accepted
pub data AcceptedIn (bs : List ℕ) : List Call → List Answer → Type 0 where
  here : (k : ℕ) (cs : List Call) (rs : List Answer) → AcceptedIn bs (on k (analysis bs) ∷ cs) (accepted done ∷ rs)
  later : (c : Call) (a : Answer) (cs : List Call) (rs : List Answer) → AcceptedIn bs cs rs → AcceptedIn bs (c ∷ cs) (a ∷ rs)

-- what a record reads as, with its properties and values per kilogram, their ceilings and their distances from the unrounded formula
pub record AnalysisShown (bs : List ℕ) : Type 0 where
  pub contents : Contents
  pub reads : reading_of bs ≡ accepted contents
  pub shown : Shown bs contents

-- the analysis in force on a stream of the meter is that of the tally's record: its pair, and its properties
pub data SameInForce : InForce Gas → Option (List ℕ) → Type 0 where
  nothing : SameInForce None none
  known : (bs : List ℕ) (gas : Gas) → gas.pair.combustion ≡ combustion_in bs → gas.pair.metering ≡ metering_in bs →
      accepted (numbers gas.properties) ≡ properties_of bs → SameInForce (Some gas) (some bs)

-- what is booked is within 2 units per dm³ of V from what is exact: of energy 2 mJ, of mass 2 × 10^-11 kg per dm³
abbrev pub AccountWithin : ℕ → Account → Type 0
AccountWithin v a = Within (whole (2 * v)) a.booked a.exact

-- where V is above 0 the mean is within 3 J/m³ of X / V, and not above the ceiling of a calorific value
pub record MeanWithin (v : ℕ) (a : Account) : Type 0 where
  pub distance : 0 < v → Within (whole 3) (near a.booked v) (divided_by a.exact v)
  pub ceiling : 0 < v → near a.booked v ≤ calorific_bound

-- the stream k after the list; s is what the tally keeps for it
pub record StreamDemand (k : ℕ) (s : StreamTally) (cs : List Call) (rs : List Answer) (m : Meter) : Type 0 where
  -- V is the sum of the accepted volumes
  pub volume : s.volume ≡ accepted_volume k cs rs
  -- a reading of totals made then answers V, and the E of each energy and of the mass in two parts
  pub totals : (κs : Lfts 1) (w : Bor Meter) (r : TotalsAnswer) → w.now ≡ m → TotalsReturns κs w k r → totals_answer r ≡ accepted (given_by totals s)
  -- of each energy, a reading of the mean made then answers near(E / V), or 18 where V is 0, and E and the mean are within their distances
  pub mean : (e : Energy) (κs : Lfts 1) (w : Bor Meter) (r : MeanAnswer) → w.now ≡ m → MeanReturns e κs w k r → 0 < s.volume → mean_answer r ≡ accepted (given_by (mean e) s)
  pub no_mean : (e : Energy) (κs : Lfts 1) (w : Bor Meter) (r : MeanAnswer) → w.now ≡ m → MeanReturns e κs w k r → s.volume ≡ 0 → mean_answer r ≡ refused 18
  pub energy_within : (e : Energy) → AccountWithin s.volume (account_of e s)
  pub mean_within : (e : Energy) → MeanWithin s.volume (account_of e s)
  -- the mass is within its distance
  pub mass_within : AccountWithin s.volume s.mass
  pub in_force : SameInForce (stream_at m k).analysis s.in_force

-- what the contracts require of a meter, with any other arguments
pub record Required (m : Meter) : Type 0 where
  pub analysis : (κs : Lfts 2) (w : MutBor Meter) (k : ℕ) (b : Bor (List ℕ)) → w.now ≡ m → AnalysisAsks κs w k b
  pub metering : (κs : Lfts 1) (w : MutBor Meter) (k v : ℕ) → w.now ≡ m → MeteringAsks κs w k v
  pub day : (κs : Lfts 3) (w : MutBor Meter) (k : ℕ) (f v : Bor (List ℕ)) → w.now ≡ m → DayAsks κs w k f v
  pub totals : (κs : Lfts 1) (w : Bor Meter) (k : ℕ) → w.now ≡ m → TotalsAsks κs w k
  pub mean : (e : Energy) (κs : Lfts 1) (w : Bor Meter) (k : ℕ) → w.now ≡ m → MeanAsks e κs w k

-- totals and means are readings
abbrev pub is_reading : Ask → Bool
is_reading (analysis bs) = false
is_reading (metering v) = false
is_reading totals = true
is_reading (mean e) = true

-- one call: a refused one and a reading leave the meter as it was, and every stream but the named one stays as it was
pub record Leaves (m : Meter) (c : Call) (a : Answer) (m₁ : Meter) : Type 0 where
  pub refusal : (n : ℕ) → a ≡ refused n → m₁ ≡ m
  pub reading : is_reading c.ask ≡ true → m₁ ≡ m
  pub others : (j : ℕ) → (j ≡ c.stream → ⊥) → stream_at m₁ j ≡ stream_at m j

-- each call that a step counts as; between two of them there is a meter
pub data StepLeaves : Meter → List Call → List Answer → Meter → Type 0 where
  no_call : (m : Meter) → StepLeaves m [] [] m
  next_call : (m m₁ m₂ : Meter) (c : Call) (a : Answer) (cs : List Call) (rs : List Answer) → Leaves m c a m₁ → StepLeaves m₁ cs rs m₂ →
      StepLeaves m (c ∷ cs) (a ∷ rs) m₂

-- each step of a list, on the meter as the one before it left it
unfoldable pub EachLeaves : (m : Meter) (cs : List Call) (rs : List Answer) (m' : Meter) → Run m cs rs m' → Type 0
EachLeaves m cs rs m' (ended m₁) = Unit
EachLeaves m cs rs m' (after m₀ m₁ m₂ cs₁ cs₂ rs₁ rs₂ s more) = StepLeaves m₀ cs₁ rs₁ m₁ × EachLeaves m₁ cs₂ rs₂ m₂ more

-- the list cs from the meter m₀, with the answers rs and the meter m after it; a day file of the list counts as its single calls
pub record Demand3 (m₀ : Meter) (cs : List Call) (rs : List Answer) (m : Meter) (ran : Run m₀ cs rs m) : Type 0 where
  -- each call is accepted where the tally accepts it, refused by the tally's number where not, and each accepted reading answers what
  -- the tally gives
  pub answers : rs ≡ answers_to fresh_tally cs
  -- as they were made, the calls are these, and each reply is the tally's: a day file is accepted where the tally accepts it, refused by
  -- its number where not, and its counts are how many of its single calls the tally accepts
  pub calls : cs ≡ single_calls (listed ran)
  pub replies_are : replies ran ≡ replies_to fresh_tally (listed ran)
  pub each : (k : ℕ) → k ≤ last_stream → StreamDemand k (tally_at (tallied fresh_tally cs) k) cs rs m
  -- each accepted analysis of the list
  pub analyses : (bs : List ℕ) → AcceptedIn bs cs rs → AnalysisShown bs
  -- each refused call and each reading of the list leaves the meter as it was, and each call every stream but the named one
  pub leaves : EachLeaves m₀ cs rs m ran
  -- what the contracts require holds after the list; since the claim is for every list, it holds before each of its calls too
  pub required : Required m
  -- and so does what the type of a stream carries of the meter, in the place of such a clause
  pub sound : Sound m

-- demand 3: for every list of calls from a meter that `Meter::new` returned
abbrev pub Claim : Type 0
Claim = (m₀ m : Meter) (cs : List Call) (rs : List Answer) → FreshReturns m₀ → (ran : Run m₀ cs rs m) → Demand3 m₀ cs rs m ran

-- the claim is not empty: every list of calls, day files among them, has a run from every meter, and there is a fresh meter
pub record HasRun (m : Meter) (ls : List Listed) : Type 0 where
  pub answers : List Answer
  pub meter : Meter
  pub run : Run m (single_calls ls) answers meter
  pub as_listed : listed run ≡ ls

abbrev pub EveryListHasRun : Type 0
EveryListHasRun = (m : Meter) (ls : List Listed) → HasRun m ls

pub record HasFresh : Type 0 where
  pub meter : Meter
  pub returns : FreshReturns meter
