-- Which bytes the writer fills, and the round trips: a record read and written again has the same bytes, and contents written and
-- read again are the same. Whoever hands the reader's answer to the writer hands it the contents (`AnswerHoldsContents`).
use Rattle.std.specs.Prelude.{◌≡◌, List, ℕ, ◌≤◌, length, take, drop}
use Rattle.records.specs.declared.Analysis.{Analysis}
use Rattle.records.specs.Order.{accepted}
use Rattle.records.specs.Format.{Contents, contents, Bytes, record_length, bytes_of, placed}
use Rattle.records.specs.Calls.{reading_of, writing_of}
use Rattle.records.specs.Answers.{held}

-- the first 8 + 5n bytes of a buffer are the record, and the others are as they were
pub record Filled (k : Contents) (old new : List ℕ) : Type 0 where
  pub same_length : length new ≡ length old
  pub front : take (record_length (length k.lines)) new ≡ bytes_of k
  pub others : drop (record_length (length k.lines)) new ≡ drop (record_length (length k.lines)) old

abbrev pub FillsItsBytes : Type 0
FillsItsBytes = (k : Contents) (old new : List ℕ) → writing_of k old ≡ accepted new → Filled k old new

-- what the writer is given of an answer of the reader: its pair, and the first count numbers of both arrays
abbrev pub contents_of : Analysis → Contents
contents_of a = contents a.pair.combustion a.pair.metering (take a.count a.lines) (take a.count a.fractions)

-- of an accepted record these are its contents
abbrev pub AnswerHoldsContents : Type 0
AnswerHoldsContents = (bs : List ℕ) (k : Contents) → reading_of bs ≡ accepted k → contents_of (held k) ≡ k

-- the contents of an accepted record, written into a buffer that has room, are accepted and put the record's bytes there
abbrev pub ReadThenWritten : Type 0
ReadThenWritten =
    (bs old : List ℕ) (k : Contents) → Bytes bs → reading_of bs ≡ accepted k → length bs ≤ length old → writing_of k old ≡ accepted (placed old 0 bs)

-- the first 8 + 5n bytes of a buffer that the writer has filled are an accepted record with the contents written
abbrev pub WrittenThenRead : Type 0
WrittenThenRead =
    (k : Contents) (old new : List ℕ) → writing_of k old ≡ accepted new → reading_of (take (record_length (length k.lines)) new) ≡ accepted k
