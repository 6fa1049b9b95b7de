-- The limits, 10, 11 and 12, are tried before the sum, 9. Compared with the order that tried 9 before them, which stands here for this
-- comparison alone, only answers of 9 where one of 10 to 12 holds too differ: they are the first of 10 to 12 that holds. Every other
-- answer is the same, for every record and every call of the writer.
use Rattle.std.specs.Prelude.{◌≡◌, Bool, true, not, ◌&&◌, cond, List, [], ◌∷◌, ◌++◌, ℕ, eqb}
use Rattle.records.specs.Order.{Order, first_of, numbers_of, condition_of, Outcome, refused, accepted}
use Rattle.records.specs.Format.{Contents, lines_in, fractions_in, bytes_of}
use Rattle.records.specs.Conditions.{fraction_zero, from_limits, lines_order, record_order, writer_order}
use Rattle.records.specs.Calls.{reading_of, writing_of}
use Rattle.records.specs.ByOrder.{record_order_by, writer_order_by, reading_by, writing_by}
use Rattle.records.specs.Cases.{same_contents, same_outcome, nitrogen_high}

-- the former order of the four, from whether each holds
abbrev pub former_limits_order : Bool → Bool → Bool → Bool → Order
former_limits_order nine ten eleven twelve = (9, nine) ∷ (10, ten) ∷ (11, eleven) ∷ (12, twelve) ∷ []

-- of line numbers and fractions
abbrev pub former_content_order : List ℕ → List ℕ → Order
former_content_order ls xs = lines_order ls ++ ((8, fraction_zero xs) ∷ from_limits former_limits_order ls xs)

-- of a record, and of the writer
abbrev pub former_record_order : List ℕ → Order
former_record_order = record_order_by former_content_order

abbrev pub former_writer_order : Contents → ℕ → Order
former_writer_order = writer_order_by former_content_order

-- these tried the numbers upward, the writer after 19, 4 and 5
abbrev pub former_content_numbers : List ℕ
former_content_numbers = 7 ∷ 8 ∷ 9 ∷ 10 ∷ 11 ∷ 12 ∷ []

abbrev pub former_record_numbers : List ℕ
former_record_numbers = 1 ∷ 2 ∷ 3 ∷ 4 ∷ 5 ∷ 6 ∷ former_content_numbers

abbrev pub FormerRecordNumbers : Type 0
FormerRecordNumbers = (bs : List ℕ) → numbers_of (former_record_order bs) ≡ former_record_numbers

abbrev pub FormerWriterNumbers : Type 0
FormerWriterNumbers = (k : Contents) (room : ℕ) → numbers_of (former_writer_order k room) ≡ 19 ∷ 4 ∷ 5 ∷ former_content_numbers ++ (20 ∷ [])

-- and each with the condition that it has now
abbrev pub FormerRecordConditions : Type 0
FormerRecordConditions = (bs : List ℕ) (n : ℕ) → condition_of n (former_record_order bs) ≡ condition_of n (record_order bs)

abbrev pub FormerWriterConditions : Type 0
FormerWriterConditions = (k : Contents) (room n : ℕ) → condition_of n (former_writer_order k room) ≡ condition_of n (writer_order k room)

-- what reading a record, and writing contents, gave by them
abbrev pub former_reading_of : List ℕ → Outcome Contents
former_reading_of = reading_by former_content_order

abbrev pub former_writing_of : Contents → List ℕ → Outcome (List ℕ)
former_writing_of = writing_by former_content_order

-- the first of 10, 11 and 12 that holds, 0 where none does: from whether each of the four holds, of line numbers and fractions, of a record
abbrev pub first_limit : Bool → Bool → Bool → Bool → ℕ
first_limit nine ten eleven twelve = first_of ((10, ten) ∷ (11, eleven) ∷ (12, twelve) ∷ [])

abbrev pub limit_number : List ℕ → List ℕ → ℕ
limit_number ls xs = from_limits first_limit ls xs

abbrev pub record_limit_number : List ℕ → ℕ
record_limit_number bs = limit_number (lines_in bs) (fractions_in bs)

-- what a former number is now, from the number of such a limit, 0 where there is none: 9 becomes it, and every other number stays
abbrev pub number_now : ℕ → ℕ → ℕ
number_now limit number = cond (not (eqb limit 0) && eqb number 9) limit number

-- a former answer as it is now: an acceptance stays with all that it answers
abbrev pub renumbered : {A : Type 0} → ℕ → Outcome A → Outcome A
renumbered limit (refused number) = refused (number_now limit number)
renumbered limit (accepted a) = accepted a

-- reading, for every record
abbrev pub ReadingChange : Type 0
ReadingChange = (bs : List ℕ) → reading_of bs ≡ renumbered (record_limit_number bs) (former_reading_of bs)

-- writing, for every call
abbrev pub WritingChange : Type 0
WritingChange = (k : Contents) (old : List ℕ) → writing_of k old ≡ renumbered (limit_number k.lines k.fractions) (former_writing_of k old)

-- K1's gas with nitrogen at 400,000: its record was refused by 9, and is by 11
abbrev pub NitrogenChange : Type 0
NitrogenChange =
    (same_outcome same_contents (former_reading_of (bytes_of nitrogen_high)) (refused 9)
    && same_outcome same_contents (reading_of (bytes_of nitrogen_high)) (refused 11))
    ≡ true
