-- The hydrogen class (W-207 of document 02), compared with the conditions of a record that had no such class, which stand here for this
-- comparison alone. Every record, and every call of the writer, with less than 900,000 of hydrogen gets the answer that it got by them;
-- whatever was accepted is accepted still, with the same answer; and with 900,000 of hydrogen or more nothing was accepted.
use Rattle.std.specs.Prelude.{◌≡◌, Bool, true, false, not, ◌&&◌, ◌||◌, cond, List, [], ◌∷◌, ◌++◌, ℕ, eqb, ltb}
use Rattle.components.specs.Composition.{methane, least_methane, in_class, total, fraction_for}
use Rattle.records.specs.Order.{Order, Outcome, refused, accepted}
use Rattle.records.specs.Format.{Contents, lines_in, fractions_in}
use Rattle.records.specs.Conditions.{ethane, water, nitrogen, carbon_dioxide, fraction_zero, sum_outside, limits_order, lines_order}
use Rattle.records.specs.Calls.{reading_of, writing_of}
use Rattle.records.specs.ByOrder.{record_order_by, reading_by, writing_by}

-- the former highest fraction of a line other than methane, in ppm
abbrev pub former_limit_of : ℕ → ℕ
former_limit_of l =
    cond (eqb l nitrogen) 300000
    (cond (eqb l ethane || eqb l carbon_dioxide) 150000
    (cond (eqb l water) 200
    50000))

-- the former 10: methane too low
abbrev pub former_methane_low : ℕ → Bool
former_methane_low x = ltb x least_methane

-- the former 11: a line other than methane and water above its limit
abbrev pub former_above_limit : ℕ → ℕ → Bool
former_above_limit l x = not (eqb l methane) && not (eqb l water) && ltb (former_limit_of l) x

unfoldable pub former_any_above : List ℕ → List ℕ → Bool
former_any_above [] xs = false
former_any_above (l ∷ ls) [] = false
former_any_above (l ∷ ls) (x ∷ xs) = former_above_limit l x || former_any_above ls xs

-- the former 12: water above 200
abbrev pub former_water_high : ℕ → Bool
former_water_high x = ltb (former_limit_of water) x

-- the order without the class, of a content and of a record, in which the numbers stand as they stand now
abbrev pub classless_content_order : List ℕ → List ℕ → Order
classless_content_order ls xs =
    lines_order ls
    ++ ((8, fraction_zero xs)
    ∷ limits_order (sum_outside (total xs)) (former_methane_low (fraction_for methane ls xs)) (former_any_above ls xs) (former_water_high (fraction_for water ls xs)))

abbrev pub classless_record_order : List ℕ → Order
classless_record_order = record_order_by classless_content_order

-- what reading a record, and writing contents, gave by it
abbrev pub classless_reading_of : List ℕ → Outcome Contents
classless_reading_of = reading_by classless_content_order

abbrev pub classless_writing_of : Contents → List ℕ → Outcome (List ℕ)
classless_writing_of = writing_by classless_content_order

-- a record, and contents, with 900,000 of hydrogen or more
abbrev pub record_in_class : List ℕ → Bool
record_in_class bs = in_class (lines_in bs) (fractions_in bs)

abbrev pub contents_in_class : Contents → Bool
contents_in_class k = in_class k.lines k.fractions

-- with less hydrogen every answer stays
abbrev pub ReadingStays : Type 0
ReadingStays = (bs : List ℕ) → record_in_class bs ≡ false → reading_of bs ≡ classless_reading_of bs

abbrev pub WritingStays : Type 0
WritingStays = (k : Contents) (old : List ℕ) → contents_in_class k ≡ false → writing_of k old ≡ classless_writing_of k old

-- with 900,000 or more nothing was accepted
abbrev pub AlwaysRefused : Type 0
AlwaysRefused = (bs : List ℕ) (k : Contents) → classless_reading_of bs ≡ accepted k → record_in_class bs ≡ false

abbrev pub AlwaysRefusedWriting : Type 0
AlwaysRefusedWriting = (k : Contents) (old new : List ℕ) → classless_writing_of k old ≡ accepted new → contents_in_class k ≡ false

-- so what was accepted is accepted, with the same answer
abbrev pub AcceptedReadingStays : Type 0
AcceptedReadingStays = (bs : List ℕ) (k : Contents) → classless_reading_of bs ≡ accepted k → reading_of bs ≡ accepted k

abbrev pub AcceptedWritingStays : Type 0
AcceptedWritingStays = (k : Contents) (old new : List ℕ) → classless_writing_of k old ≡ accepted new → writing_of k old ≡ accepted new

-- 10 cannot occur in the class
abbrev pub NoTenInClass : Type 0
NoTenInClass = (bs : List ℕ) → record_in_class bs ≡ true → reading_of bs ≡ refused 10 → ⊥

abbrev pub NoTenInClassWriting : Type 0
NoTenInClassWriting = (k : Contents) (old : List ℕ) → contents_in_class k ≡ true → writing_of k old ≡ refused 10 → ⊥
