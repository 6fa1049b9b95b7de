-- What the calls on a record give, for every input: the number of the first condition that holds, or the answer.
use Rattle.std.specs.Prelude.{◌≡◌, List, ℕ, ◌+◌, length, take}
use Rattle.records.specs.Order.{Outcome, first_of, decided}
use Rattle.records.specs.Format.{Contents, record_length, contents_in, bytes_of, placed}
use Rattle.records.specs.Conditions.{record_order, writer_order}

-- reading a list of bytes: the contents of the record
abbrev pub reading_of : List ℕ → Outcome Contents
reading_of bs = decided (first_of (record_order bs)) (contents_in bs)

-- writing contents into a buffer: its first 8 + 5n bytes are the record, and the others are as they were
abbrev pub writing_of : Contents → List ℕ → Outcome (List ℕ)
writing_of k old = decided (first_of (writer_order k (length old))) (placed old 0 (bytes_of k))

-- one byte more than the longest record, of 55 entries
abbrev pub enough : ℕ
enough = record_length 55 + 1

-- so many bytes decide what reading gives: a reader of a longer input need not go on
abbrev pub FirstBytesDecideReading : Type 0
FirstBytesDecideReading = (bs : List ℕ) → reading_of (take enough bs) ≡ reading_of bs
