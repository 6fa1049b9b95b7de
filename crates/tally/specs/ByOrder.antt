-- Lists of calls by another order of a record's conditions: what they are answered, and the tally after them. Statements on former answers
-- compare with it.
use Rattle.std.specs.Prelude.{List, [], ◌∷◌, ◌++◌, ℕ}
use Rattle.records.specs.Order.{Order, first_of, decided, otherwise}
use Rattle.records.specs.Format.{combustion_in, metering_in}
use Rattle.tally.specs.Tally.{Ask, analysis, metering, totals, mean, Call, Answer, StreamTally, Tally, tally_at, with_tally, above_last, other_pair, order_of, left_by, given_by}

module _ (record_order : List ℕ → Order) where
  -- the order of a call: another for an analysis, and the same for every other call
  abbrev pub order_by : ℕ → Ask → StreamTally → Order
  order_by k (analysis bs) s = (13, above_last k) ∷ record_order bs ++ ((14, other_pair s.pair (combustion_in bs) (metering_in bs)) ∷ [])
  order_by k (metering v) s = order_of k (metering v) s
  order_by k totals s = order_of k totals s
  order_by k (mean e) s = order_of k (mean e) s

  -- one call, and a list of calls
  abbrev pub number_by : Tally → Call → ℕ
  number_by t c = first_of (order_by c.stream c.ask (tally_at t c.stream))

  abbrev pub answer_by : Tally → Call → Answer
  answer_by t c = decided (number_by t c) (given_by c.ask (tally_at t c.stream))

  abbrev pub tally_after_by : Tally → Call → Tally
  tally_after_by t c = otherwise t (decided (number_by t c) (with_tally t c.stream (left_by c.ask (tally_at t c.stream))))

  abbrev pub answers_by : Tally → List Call → List Answer
  answers_by t [] = []
  answers_by t (c ∷ cs) = answer_by t c ∷ answers_by (tally_after_by t c) cs

  abbrev pub tallied_by : Tally → List Call → Tally
  tallied_by t [] = t
  tallied_by t (c ∷ cs) = tallied_by (tally_after_by t c) cs
