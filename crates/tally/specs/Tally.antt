-- The term `tally` of document 01: what a list of calls comes to, from the calls and their arguments alone. It uses nothing of the meter
-- and no answer of one.
use Rattle.std.specs.Prelude.{Bool, true, false, not, ◌||◌, cond, List, [], ◌∷◌, ◌++◌, ℕ, ◌+◌, ◌*◌, ◌/◌, ◌%◌, eqb, ltb, length, get_or, set, replicate}
use Rattle.std.proofs.Math.Option.{Option, none, some}
use Rattle.rounding.specs.Near.{near}
use Rattle.rounding.specs.Fraction.{Fraction, whole, plus, times}
use Rattle.records.specs.Order.{Order, Outcome, one_accepted, first_of, decided, otherwise}
use Rattle.records.specs.Format.{combustion_in, metering_in, contents_in}
use Rattle.records.specs.Conditions.{record_order}
use Rattle.day_file.specs.Format.{blocks_of, file_order}
use Rattle.properties.specs.Chain.{Hs, Hi, rho}
use Rattle.properties.specs.Unrounded as unrounded

-- the last stream; the most that one metering call adds, and that a volume total comes to, in dm³; mJ in 1 MJ, and 10^-11 kg in 1 kg
abbrev pub last_stream : ℕ
last_stream = 15

abbrev pub most_volume : ℕ
most_volume = 10000000

abbrev pub most_total : ℕ
most_total = 999999999999

abbrev pub per_mj : ℕ
per_mj = 1000000000

abbrev pub per_kg : ℕ
per_kg = 100000000000

-- the energies of a stream: by Hs, and by Hi
pub data Energy : Type 0 where
  superior : Energy
  inferior : Energy

-- what a call asks: an analysis with its record, a metering with its volume in dm³, or a reading, of the totals or of the mean of an
-- energy
pub data Ask : Type 0 where
  analysis : List ℕ → Ask
  metering : ℕ → Ask
  totals : Ask
  mean : Energy → Ask

-- a call: the stream that it names, and what it asks
pub record Call : Type 0 where
  pub stream : ℕ
  pub ask : Ask

abbrev pub on : ℕ → Ask → Call
on k ask = record { stream = k; ask = ask }

-- an amount in two parts
pub record Parts : Type 0 where
  pub whole : ℕ
  pub rest : ℕ

-- the totals of a stream: the volume in dm³, each energy as whole MJ and a rest in mJ, and the mass as whole kg and a rest in 10^-11 kg
pub record Totals : Type 0 where
  pub volume : ℕ
  pub superior : Parts
  pub inferior : Parts
  pub mass : Parts

-- what an accepted call gives: an analysis or a metering only that it is done, a reading the totals, or a mean in J/m³
pub data Given : Type 0 where
  done : Given
  totals_are : Totals → Given
  mean_is : ℕ → Given

-- the answer to a call: the number of its refusal, or what it gives
abbrev pub Answer : Type 0
Answer = Outcome Given

-- what a stream took, as booked and exact: of energy in mJ, and of mass in 10^-11 kg, these are E and X
pub record Account : Type 0 where
  pub booked : ℕ
  pub exact : Fraction

-- what is booked, u of whose unit make one whole, in two parts
abbrev pub parts_of : ℕ → Account → Parts
parts_of u a = record { whole = a.booked / u; rest = a.booked % u }

-- v more dm³ at a value that is h, and x unrounded: what is booked grows by v × h, and what is exact by v × x, by cross multiplication
abbrev pub grown : ℕ → ℕ → Fraction → Account → Account
grown v h x a = record { booked = a.booked + v * h; exact = plus a.exact (times v x) }

-- what the tally keeps for a stream: the record in force, the pair (combustion, metering), the volume V in dm³, and an E and an X for
-- each energy and for the mass
pub record StreamTally : Type 0 where
  pub in_force : Option (List ℕ)
  pub pair : Option (ℕ × ℕ)
  pub volume : ℕ
  pub superior : Account
  pub inferior : Account
  pub mass : Account

abbrev pub account_of : Energy → StreamTally → Account
account_of superior s = s.superior
account_of inferior s = s.inferior

-- at first: no record, no pair, and V, each E and each X are 0
abbrev pub no_account : Account
no_account = record { booked = 0; exact = whole 0 }

abbrev pub fresh_stream_tally : StreamTally
fresh_stream_tally = record { in_force = none; pair = none; volume = 0; superior = no_account; inferior = no_account; mass = no_account }

-- the streams 0 to 15
pub record Tally : Type 0 where
  pub streams : List StreamTally

abbrev pub fresh_tally : Tally
fresh_tally = record { streams = replicate 16 fresh_stream_tally }

-- what is kept for the stream k, and a fresh one above 15, where 13 has refused the call
abbrev pub tally_at : Tally → ℕ → StreamTally
tally_at t k = get_or t.streams k fresh_stream_tally

-- the tally with another stream k
abbrev pub with_tally : Tally → ℕ → StreamTally → Tally
with_tally t k s = record { streams = set t.streams k s }

-- the conditions 13 to 18 over what the tally keeps, written apart from those of the meter. 13: stream above 15
abbrev pub above_last : ℕ → Bool
above_last k = ltb last_stream k

-- 14: pair is not the stream's; while there is no pair, it does not hold
abbrev pub other_pair : Option (ℕ × ℕ) → ℕ → ℕ → Bool
other_pair none c m = false
other_pair (some pair) c m = not (eqb pair.0 c) || not (eqb pair.1 m)

-- 15: volume above 10,000,000
abbrev pub large_volume : ℕ → Bool
large_volume v = ltb most_volume v

-- 16: stream has no analysis
abbrev pub no_record : Option (List ℕ) → Bool
no_record none = true
no_record (some bs) = false

-- 17: volume total would pass 999,999,999,999
abbrev pub would_pass : ℕ → ℕ → Bool
would_pass total v = ltb most_total (total + v)

-- 18: mean wanted at volume total 0
abbrev pub no_volume : ℕ → Bool
no_volume total = eqb total 0

-- the conditions in the call's order, on the stream k with the tally's own pair, record and V: analysis 13, 1 to 8, 10 to 12, 9, 14;
-- metering 13, 15, 16, 17; totals 13; each mean 13, 18
abbrev pub order_of : ℕ → Ask → StreamTally → Order
order_of k (analysis bs) s = (13, above_last k) ∷ record_order bs ++ ((14, other_pair s.pair (combustion_in bs) (metering_in bs)) ∷ [])
order_of k (metering v) s = (13, above_last k) ∷ (15, large_volume v) ∷ (16, no_record s.in_force) ∷ (17, would_pass s.volume v) ∷ []
order_of k totals s = (13, above_last k) ∷ []
order_of k (mean e) s = (13, above_last k) ∷ (18, no_volume s.volume) ∷ []

-- an accepted volume v: V grows by v, the superior E by v × Hs and its X by v × the unrounded Hs, the inferior ones by v × Hi and v × the
-- unrounded Hi, those of the mass by v × rho and v × the unrounded rho, all of the record in force; with no record, 16 has refused it
abbrev pub metered_by : Option (List ℕ) → ℕ → StreamTally → StreamTally
metered_by none v s = s
metered_by (some bs) v s =
    record {
      in_force = s.in_force;
      pair = s.pair;
      volume = s.volume + v;
      superior = grown v (Hs (contents_in bs)) (unrounded.Hs (contents_in bs)) s.superior;
      inferior = grown v (Hi (contents_in bs)) (unrounded.Hi (contents_in bs)) s.inferior;
      mass = grown v (rho (contents_in bs)) (unrounded.rho (contents_in bs)) s.mass;
    }

-- what an accepted call leaves: an analysis brings its record into force, and its pair is the stream's; a reading changes nothing
abbrev pub left_by : Ask → StreamTally → StreamTally
left_by (analysis bs) s =
    record {
      in_force = some bs;
      pair = some (combustion_in bs, metering_in bs);
      volume = s.volume;
      superior = s.superior;
      inferior = s.inferior;
      mass = s.mass;
    }
left_by (metering v) s = metered_by s.in_force v s
left_by totals s = s
left_by (mean e) s = s

-- what an accepted call answers: totals give V, the E of each energy as whole MJ and rest, and that of the mass as whole kg and rest;
-- a mean gives near(E / V)
abbrev pub given_by : Ask → StreamTally → Given
given_by (analysis bs) s = done
given_by (metering v) s = done
given_by totals s =
    totals_are
    (record {
      volume = s.volume;
      superior = parts_of per_mj s.superior;
      inferior = parts_of per_mj s.inferior;
      mass = parts_of per_kg s.mass;
    })
given_by (mean e) s = mean_is (near (account_of e s).booked s.volume)

-- one call: refused by the first condition that holds, and then the tally stays as it is, or accepted
abbrev pub number_for : Tally → Call → ℕ
number_for t c = first_of (order_of c.stream c.ask (tally_at t c.stream))

abbrev pub answer_to : Tally → Call → Answer
answer_to t c = decided (number_for t c) (given_by c.ask (tally_at t c.stream))

abbrev pub tally_after : Tally → Call → Tally
tally_after t c = otherwise t (decided (number_for t c) (with_tally t c.stream (left_by c.ask (tally_at t c.stream))))

-- a list of calls: the answers, and the tally after it
abbrev pub answers_to : Tally → List Call → List Answer
answers_to t [] = []
answers_to t (c ∷ cs) = answer_to t c ∷ answers_to (tally_after t c) cs

abbrev pub tallied : Tally → List Call → Tally
tallied t [] = t
tallied t (c ∷ cs) = tallied (tally_after t c) cs

-- the conditions of a day file (document 02, W-206), in order: 13, 21, 23, 19; 13 and 19 are written apart from those of the meter, 21 and 23
-- are those of the file
abbrev pub day_order_of : ℕ → List ℕ → List ℕ → Order
day_order_of k file volumes = (13, above_last k) ∷ file_order file ++ ((19, not (eqb (length volumes) (length (blocks_of file)))) ∷ [])

-- for each block first the analysis, then its volume
abbrev pub day_pairs : ℕ → List (List ℕ) → List ℕ → List Call
day_pairs k [] vs = []
day_pairs k (b ∷ bs) [] = []
day_pairs k (b ∷ bs) (v ∷ vs) = on k (analysis b) ∷ on k (metering v) ∷ day_pairs k bs vs

-- the single calls that it counts as: none where it is itself refused
abbrev pub day_calls : ℕ → List ℕ → List ℕ → List Call
day_calls k file volumes = otherwise [] (decided (first_of (day_order_of k file volumes)) (day_pairs k (blocks_of file) volumes))

-- a call as it stands in a list: a single one, or a day file with its volumes on a stream; and the single calls that it counts as
pub data Listed : Type 0 where
  single : Call → Listed
  day : ℕ → List ℕ → List ℕ → Listed

abbrev pub counts_as : Listed → List Call
counts_as (single c) = c ∷ []
counts_as (day k file volumes) = day_calls k file volumes

-- the single calls of a list
abbrev pub single_calls : List Listed → List Call
single_calls [] = []
single_calls (l ∷ ls) = counts_as l ++ single_calls ls

-- how many analyses and how many volumes were accepted
pub record Counted : Type 0 where
  pub analyses : ℕ
  pub volumes : ℕ

-- the reply to a listed call: the answer to a single one; to a day file the number of its refusal, or the counts
pub data Reply : Type 0 where
  answered : Answer → Reply
  counted : Outcome Counted → Reply

-- a call is an analysis, or a metering
abbrev pub is_analysis : Ask → Bool
is_analysis (analysis bs) = true
is_analysis (metering v) = false
is_analysis totals = false
is_analysis (mean e) = false

abbrev pub is_metering : Ask → Bool
is_metering (analysis bs) = false
is_metering (metering v) = true
is_metering totals = false
is_metering (mean e) = false

-- of calls with their answers, how many of a kind were accepted
abbrev pub accepted_count : (Ask → Bool) → List Call → List Answer → ℕ
accepted_count asked [] rs = 0
accepted_count asked (c ∷ cs) [] = 0
accepted_count asked (c ∷ cs) (a ∷ rs) = cond (asked c.ask) (one_accepted a + accepted_count asked cs rs) (accepted_count asked cs rs)

abbrev pub counted_in : List Call → List Answer → Counted
counted_in cs rs = record { analyses = accepted_count is_analysis cs rs; volumes = accepted_count is_metering cs rs }

-- the tally's reply; a day file's counts are those of its single calls
abbrev pub reply_to : Tally → Listed → Reply
reply_to t (single c) = answered (answer_to t c)
reply_to t (day k file volumes) =
    let cs = day_calls k file volumes in
    counted (decided (first_of (day_order_of k file volumes)) (counted_in cs (answers_to t cs)))

abbrev pub replies_to : Tally → List Listed → List Reply
replies_to t [] = []
replies_to t (l ∷ ls) = reply_to t l ∷ replies_to (tallied t (counts_as l)) ls
