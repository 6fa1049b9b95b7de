-- Words that hold a meter, and what a call on them gives.
use Rattle.std.specs.Prelude.{◌≡◌, List, [], ℕ, ◌<◌, length, get_or, Result}
use Rattle.records.specs.declared.refusal.Refusal.{Refusal}
use Rattle.records.specs.Order.{Outcome, mapped}
use Rattle.records.specs.Answers.{Returns}
use Rattle.meter.specs.declared.day.Counts.{Counts}
use Rattle.meter.specs.declared.Stream.{Stream}
use Rattle.meter.specs.declared.Meter.{Meter}
use Rattle.meter.specs.State.{SoundStream, Sound}
use Rattle.meter.specs.Days.{Day, turned, GivesDay}
use Rattle.lent_meter.specs.Words.{packed_stream, packed, packed_counts}

-- a row holds a sound stream, and words hold a sound meter
pub record LentRow (row : List ℕ) : Type 0 where
  pub stream : Stream
  pub sound : SoundStream stream
  pub holds : row ≡ packed_stream stream

abbrev pub EachLent : List (List ℕ) → Type 0
EachLent rows = (k : ℕ) → k < length rows → LentRow (get_or rows k [])

pub record Lent (words : List (List ℕ)) : Type 0 where
  pub meter : Meter
  pub sound : Sound meter
  pub holds : words ≡ packed meter

-- a call that may change the meter, on words: of every meter that they held, the number and the words afterwards are those of the call
abbrev pub OnWords : (Meter → Outcome Meter) → List (List ℕ) → ℕ → List (List ℕ) → Type 0
OnWords call before number after = (m : Meter) → Sound m → before ≡ packed m → Returns (mapped packed (call m)) before number after

-- a day file on words: of every meter that they held, the answer and the words afterwards are those of the call
abbrev pub DayOnWords : (Meter → Outcome (Day Meter)) → List (List ℕ) → Result Counts Refusal → List (List ℕ) → Type 0
DayOnWords call before answer after = (m : Meter) → Sound m → before ≡ packed m → GivesDay (mapped (turned packed) (call m)) before answer after

-- what a day leaves in the memory that is lent: the words, and the counts
abbrev pub packed_day : Day Meter → List (List ℕ) × List ℕ
packed_day d = (packed d.left, packed_counts d.counts)

-- a day file on words with memory for its counts: the number, and both afterwards
abbrev pub OnDay : (Meter → Outcome (Day Meter)) → List (List ℕ) → List ℕ → ℕ → List (List ℕ) → List ℕ → Type 0
OnDay call before counts number after counted =
    (m : Meter) → Sound m → before ≡ packed m → Returns (mapped packed_day (call m)) (before, counts) number (after, counted)

-- whatever the words are, such a call leaves the rows of the other streams as they were, and a refusal leaves all of them
pub record Leaves (k : ℕ) (before : List (List ℕ)) (number : ℕ) (after : List (List ℕ)) : Type 0 where
  pub others : (j : ℕ) → (j ≡ k → ⊥) → get_or after j [] ≡ get_or before j []
  pub refusal : (number ≡ 0 → ⊥) → after ≡ before

-- a reading: the number, and the memory that is lent for the answer
abbrev pub OnReading : {A B : Type 0} → (A → B) → (Meter → Outcome A) → List (List ℕ) → B → ℕ → B → Type 0
OnReading shown call words before number after = (m : Meter) → Sound m → words ≡ packed m → Returns (mapped shown (call m)) before number after

-- what a reading answers: of every meter that the words hold, what the call gives
abbrev pub OnMeter : {A : Type 0} → (Meter → Outcome A) → List (List ℕ) → Outcome A → Type 0
OnMeter call words answer = (m : Meter) → Sound m → words ≡ packed m → answer ≡ call m

-- a call that may change a stream, on a row, where 13 does not hold
abbrev pub OnRow : (Stream → Outcome Stream) → List ℕ → ℕ → List ℕ → Type 0
OnRow call before number after = (s : Stream) → SoundStream s → before ≡ packed_stream s → Returns (mapped packed_stream (call s)) before number after

-- a day file on a row, where no number refuses it
abbrev pub DayOnRow : (Stream → Day Stream) → List ℕ → Counts → List ℕ → Type 0
DayOnRow call before counts after = (s : Stream) → SoundStream s → before ≡ packed_stream s → record { counts = counts; left = after } ≡ turned packed_stream (call s)

-- a refusal leaves a row, whatever its words are
abbrev pub LeavesRow : List ℕ → ℕ → List ℕ → Type 0
LeavesRow before number after = (number ≡ 0 → ⊥) → after ≡ before
