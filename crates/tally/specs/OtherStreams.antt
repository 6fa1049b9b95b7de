-- What calls on other streams leave alone: two lists of calls, each from a fresh meter, that are alike in the calls that name a stream. The
-- answers to these calls are the same, and so is all that is stored for the stream. On other streams each list may have any number of
-- calls at any places, refused ones and ones on streams above 15 among them. A day file counts as its single calls, which all name its
-- stream.
use Rattle.std.specs.Prelude.{◌≡◌, Bool, true, not, cond, List, [], ◌∷◌, map, ℕ, ◌≤◌, eqb, get_or}
use contract.Lifetimes.{Lfts}
use Rattle.std.specs.Borrow.{MutBor}
use Rattle.records.specs.Order.{refused}
use Rattle.meter.specs.declared.Meter.{Meter}
use Rattle.meter.specs.State.{stream_at}
use Rattle.lent_meter.specs.Words.{packed_stream}
use Rattle.tally.specs.Tally.{last_stream, Call, Answer, fresh_tally, tally_at, above_last, answers_to, tallied, Listed, single, day, single_calls, Reply, answered, counted}
use Rattle.tally.specs.Run.{FreshReturns, Run, listed, replies}
use Rattle.tally.specs.LentRun.{Words, FreshGave, LentRun, lent_listed, lent_replies}

-- of a list, what names a chosen stream, in its order; and what was answered to it
module _ {A : Type 0} (stream : A → ℕ) (chosen : ℕ → Bool) where
  abbrev pub those_on : List A → List A
  those_on [] = []
  those_on (c ∷ cs) = cond (chosen (stream c)) (c ∷ those_on cs) (those_on cs)

  abbrev pub given_on : {B : Type 0} → List A → List B → List B
  given_on [] rs = []
  given_on (c ∷ cs) [] = []
  given_on (c ∷ cs) (a ∷ rs) = cond (chosen (stream c)) (a ∷ given_on cs rs) (given_on cs rs)

-- the single calls of a list that name a chosen stream, each with all that it asks, and the answers to these
abbrev pub calls_on : (ℕ → Bool) → List Call → List Call
calls_on = those_on (λ (c : Call). c.stream)

abbrev pub answers_on : (ℕ → Bool) → List Call → List Answer → List Answer
answers_on chosen cs rs = given_on (λ (c : Call). c.stream) chosen cs rs

-- the same of the calls as they are listed, of which a day file names one stream, and of the replies to them
abbrev pub stream_of : Listed → ℕ
stream_of (single c) = c.stream
stream_of (day k file volumes) = k

abbrev pub listed_on : (ℕ → Bool) → List Listed → List Listed
listed_on = those_on stream_of

abbrev pub replies_on : (ℕ → Bool) → List Listed → List Reply → List Reply
replies_on chosen ls given = given_on stream_of chosen ls given

-- the stream k alone, and the streams 0 to 15
abbrev pub only : ℕ → ℕ → Bool
only k j = eqb j k

abbrev pub of_the_meter : ℕ → Bool
of_the_meter k = not (above_last k)

-- the calls that name the stream k, and the answers to them
abbrev pub calls_of : ℕ → List Call → List Call
calls_of k = calls_on (only k)

abbrev pub answers_of : ℕ → List Call → List Answer → List Answer
answers_of k = answers_on (only k)

-- the functions of crates/meter made the calls cs on a meter that `Meter::new` returned, gave the answers rs, and left the meter m
pub record RanFresh (cs : List Call) (rs : List Answer) (m : Meter) : Type 0 where
  pub first : Meter
  pub made : FreshReturns first
  pub ran : Run first cs rs m

-- what is stored for the stream k is the same after both lists: the whole record of the stream, which is the gas in force with its pair and
-- properties, the volume, both energies and the mass; and what the tally keeps for it
pub record SameStored (k : ℕ) (cs : List Call) (m : Meter) (ds : List Call) (n : Meter) : Type 0 where
  pub stream : stream_at m k ≡ stream_at n k
  pub tally : tally_at (tallied fresh_tally cs) k ≡ tally_at (tallied fresh_tally ds) k

-- every answer to the calls that name the stream k is the same, and everything stored for it
pub record SameFor (k : ℕ) (cs : List Call) (rs : List Answer) (m : Meter) (ds : List Call) (ss : List Answer) (n : Meter) : Type 0 where
  pub answers : answers_of k cs rs ≡ answers_of k ds ss
  pub stored : SameStored k cs m ds n

abbrev pub OtherStreams : Type 0
OtherStreams =
    (k : ℕ) → k ≤ last_stream → (cs ds : List Call) (rs ss : List Answer) (m n : Meter) → RanFresh cs rs m → RanFresh ds ss n →
    calls_of k cs ≡ calls_of k ds → SameFor k cs rs m ds ss n

-- the same of any choice of streams, for lists that are alike in the calls that name any of them
pub record SameOn (chosen : ℕ → Bool) (cs : List Call) (rs : List Answer) (m : Meter) (ds : List Call) (ss : List Answer) (n : Meter) : Type 0 where
  pub answers : answers_on chosen cs rs ≡ answers_on chosen ds ss
  pub stored : (k : ℕ) → k ≤ last_stream → chosen k ≡ true → SameStored k cs m ds n

abbrev pub ChosenStreams : Type 0
ChosenStreams =
    (chosen : ℕ → Bool) (cs ds : List Call) (rs ss : List Answer) (m n : Meter) → RanFresh cs rs m → RanFresh ds ss n →
    calls_on chosen cs ≡ calls_on chosen ds → SameOn chosen cs rs m ds ss n

-- Where the lists are alike in the calls that name a chosen stream as these are listed, day files with all their bytes and volumes, they
-- are alike in the single calls too, and every reply to these calls is the same: a day file's counts as well.
pub record SameListedOn (chosen : ℕ → Bool) {cs : List Call} {rs : List Answer} {m : Meter} (a : RanFresh cs rs m) {ds : List Call} {ss : List Answer} {n : Meter}
    (b : RanFresh ds ss n) : Type 0 where
  pub replies : replies_on chosen (listed a.ran) (replies a.ran) ≡ replies_on chosen (listed b.ran) (replies b.ran)
  pub single : SameOn chosen cs rs m ds ss n

abbrev pub ListedOnStreams : Type 0
ListedOnStreams =
    (chosen : ℕ → Bool) (cs ds : List Call) (rs ss : List Answer) (m n : Meter) (a : RanFresh cs rs m) (b : RanFresh ds ss n) →
    listed_on chosen (listed a.ran) ≡ listed_on chosen (listed b.ran) → SameListedOn chosen a b

-- it is as if the calls that name a chosen stream were the only ones: the tally gives these answers to them alone, and keeps for these
-- streams what it keeps after them alone
pub record Alone (chosen : ℕ → Bool) (cs : List Call) (rs : List Answer) : Type 0 where
  pub answers : answers_on chosen cs rs ≡ answers_to fresh_tally (calls_on chosen cs)
  pub tally : (k : ℕ) → chosen k ≡ true → tally_at (tallied fresh_tally cs) k ≡ tally_at (tallied fresh_tally (calls_on chosen cs)) k

abbrev pub AsIfAlone : Type 0
AsIfAlone = (chosen : ℕ → Bool) (cs : List Call) (rs : List Answer) (m : Meter) → RanFresh cs rs m → Alone chosen cs rs

-- each call that names a stream above 15 is refused by 13
abbrev pub AboveRefused : Type 0
AboveRefused =
    (cs : List Call) (rs : List Answer) (m : Meter) → RanFresh cs rs m → answers_on above_last cs rs ≡ map (λ (c : Call). refused 13) (calls_on above_last cs)

-- a day file on such a stream counts as no call, and the reply to it, as to every call that names one, is the refusal by 13
abbrev pub reply_13 : Listed → Reply
reply_13 (single c) = answered (refused 13)
reply_13 (day k file volumes) = counted (refused 13)

abbrev pub AboveReplied : Type 0
AboveReplied =
    (cs : List Call) (rs : List Answer) (m : Meter) (a : RanFresh cs rs m) →
    replies_on above_last (listed a.ran) (replies a.ran) ≡ map reply_13 (listed_on above_last (listed a.ran))

-- and such calls change nothing: lists that are alike in all other calls have the same answers to those, and leave the same meter
pub record SameWithout (cs : List Call) (rs : List Answer) (m : Meter) (ds : List Call) (ss : List Answer) (n : Meter) : Type 0 where
  pub answers : answers_on of_the_meter cs rs ≡ answers_on of_the_meter ds ss
  pub meter : m ≡ n
  pub tally : tallied fresh_tally cs ≡ tallied fresh_tally ds

abbrev pub AboveChangesNothing : Type 0
AboveChangesNothing =
    (cs ds : List Call) (rs ss : List Answer) (m n : Meter) → RanFresh cs rs m → RanFresh ds ss n → calls_on of_the_meter cs ≡ calls_on of_the_meter ds →
    SameWithout cs rs m ds ss n

-- the exported functions made the calls on words that the exported `fresh` had filled, gave the answers, and left the words w
pub record LentRanFresh (cs : List Call) (rs : List Answer) (w : Words) : Type 0 where
  pub lifetimes : Lfts 1
  pub old : MutBor Words
  pub new : MutBor Words
  pub filled : FreshGave lifetimes old new
  pub ran : LentRun new.now cs rs w

-- of two such lists: what is stored for the stream k are the words of its row
pub record LentSameFor (k : ℕ) (cs : List Call) (rs : List Answer) (w : Words) (ds : List Call) (ss : List Answer) (v : Words) : Type 0 where
  pub answers : answers_of k cs rs ≡ answers_of k ds ss
  pub row : get_or w k [] ≡ get_or v k []

abbrev pub LentOtherStreams : Type 0
LentOtherStreams =
    (k : ℕ) → k ≤ last_stream → (cs ds : List Call) (rs ss : List Answer) (w v : Words) → LentRanFresh cs rs w → LentRanFresh ds ss v →
    calls_of k cs ≡ calls_of k ds → LentSameFor k cs rs w ds ss v

-- and where they are alike in these calls as they are listed
pub record LentSameListedOn (chosen : ℕ → Bool) {cs : List Call} {rs : List Answer} {w : Words} (a : LentRanFresh cs rs w) {ds : List Call} {ss : List Answer} {v : Words}
    (b : LentRanFresh ds ss v) : Type 0 where
  pub replies : replies_on chosen (lent_listed a.ran) (lent_replies a.ran) ≡ replies_on chosen (lent_listed b.ran) (lent_replies b.ran)
  pub answers : answers_on chosen cs rs ≡ answers_on chosen ds ss
  pub rows : (k : ℕ) → k ≤ last_stream → chosen k ≡ true → get_or w k [] ≡ get_or v k []

abbrev pub LentListedOnStreams : Type 0
LentListedOnStreams =
    (chosen : ℕ → Bool) (cs ds : List Call) (rs ss : List Answer) (w v : Words) (a : LentRanFresh cs rs w) (b : LentRanFresh ds ss v) →
    listed_on chosen (lent_listed a.ran) ≡ listed_on chosen (lent_listed b.ran) → LentSameListedOn chosen a b

-- and of one list on a `Meter` and the other on words: the row holds the stream
pub record MixedSameFor (k : ℕ) (cs : List Call) (rs : List Answer) (m : Meter) (ds : List Call) (ss : List Answer) (v : Words) : Type 0 where
  pub answers : answers_of k cs rs ≡ answers_of k ds ss
  pub row : packed_stream (stream_at m k) ≡ get_or v k []

abbrev pub MixedOtherStreams : Type 0
MixedOtherStreams =
    (k : ℕ) → k ≤ last_stream → (cs ds : List Call) (rs ss : List Answer) (m : Meter) (v : Words) → RanFresh cs rs m → LentRanFresh ds ss v →
    calls_of k cs ≡ calls_of k ds → MixedSameFor k cs rs m ds ss v

-- calls that name a stream above 15, on words
abbrev pub LentAboveRefused : Type 0
LentAboveRefused =
    (cs : List Call) (rs : List Answer) (w : Words) → LentRanFresh cs rs w → answers_on above_last cs rs ≡ map (λ (c : Call). refused 13) (calls_on above_last cs)

abbrev pub LentAboveReplied : Type 0
LentAboveReplied =
    (cs : List Call) (rs : List Answer) (w : Words) (a : LentRanFresh cs rs w) →
    replies_on above_last (lent_listed a.ran) (lent_replies a.ran) ≡ map reply_13 (listed_on above_last (lent_listed a.ran))

pub record LentSameWithout (cs : List Call) (rs : List Answer) (w : Words) (ds : List Call) (ss : List Answer) (v : Words) : Type 0 where
  pub answers : answers_on of_the_meter cs rs ≡ answers_on of_the_meter ds ss
  pub words : w ≡ v

abbrev pub LentAboveChangesNothing : Type 0
LentAboveChangesNothing =
    (cs ds : List Call) (rs ss : List Answer) (w v : Words) → LentRanFresh cs rs w → LentRanFresh ds ss v → calls_on of_the_meter cs ≡ calls_on of_the_meter ds →
    LentSameWithout cs rs w ds ss v

-- none of this is empty: every list of calls, day files among them, has such a run, of the one meter and of the other
pub record HasRanFresh (ls : List Listed) : Type 0 where
  pub answers : List Answer
  pub meter : Meter
  pub ran : RanFresh (single_calls ls) answers meter
  pub as_listed : listed ran.ran ≡ ls

pub record HasLentRanFresh (ls : List Listed) : Type 0 where
  pub answers : List Answer
  pub words : Words
  pub ran : LentRanFresh (single_calls ls) answers words
  pub as_listed : lent_listed ran.ran ≡ ls

pub record EveryListRanFresh : Type 0 where
  pub on_meter : (ls : List Listed) → HasRanFresh ls
  pub on_words : (ls : List Listed) → HasLentRanFresh ls
