-- The conditions of refusal of a record and of the record writer, with document 01's numbers, and their orders.
use Rattle.std.specs.Prelude.{◌≡◌, Bool, false, not, ◌&&◌, ◌||◌, cond, List, [], ◌∷◌, ◌++◌, ℕ, eqb, leb, ltb, length}
use Rattle.components.specs.Composition.{methane, hydrogen, most_sum, least_methane, in_class, total, fraction_for}
use Rattle.records.specs.Order.{Order, numbers_of}
use Rattle.records.specs.Format.{Contents, version, head_length, record_length, has_mark, version_in, combustion_in, metering_in, count_in, lines_in, fractions_in}

-- the six permitted pairs, combustion/metering
abbrev pub permitted : ℕ → ℕ → Bool
permitted c m =
    eqb c 15 && eqb m 15
    || eqb c 0 && eqb m 0
    || eqb c 15 && eqb m 0
    || eqb c 25 && eqb m 0
    || eqb c 20 && eqb m 20
    || eqb c 25 && eqb m 20

-- line numbers, beside those of methane and of hydrogen
abbrev pub ethane : ℕ
ethane = 2

abbrev pub water : ℕ
water = 42

abbrev pub nitrogen : ℕ
nitrogen = 52

abbrev pub carbon_dioxide : ℕ
carbon_dioxide = 54

-- the highest fraction of a line, in ppm, outside the hydrogen class (false) and in it (true); and the line that has none
abbrev pub limit_of : Bool → ℕ → ℕ
limit_of class l =
    cond (eqb l water) 200
    (cond class 50000
    (cond (eqb l nitrogen) 300000
    (cond (eqb l ethane || eqb l carbon_dioxide) 150000
    50000)))

abbrev pub unlimited : Bool → ℕ
unlimited class = cond class hydrogen methane

-- 1: record shorter than 8 bytes
abbrev pub too_short : List ℕ → Bool
too_short bs = ltb (length bs) head_length

-- 2: mark differs
abbrev pub mark_differs : List ℕ → Bool
mark_differs bs = not (has_mark bs)

-- 3: version is not 1
abbrev pub version_differs : List ℕ → Bool
version_differs bs = not (eqb (version_in bs) version)

-- 4: pair not permitted
abbrev pub pair_refused : ℕ → ℕ → Bool
pair_refused c m = not (permitted c m)

-- 5: n is 0 or above 55
abbrev pub count_outside : ℕ → Bool
count_outside n = eqb n 0 || ltb 55 n

-- 6: length is not 8 + 5n
abbrev pub length_differs : List ℕ → Bool
length_differs bs = not (eqb (length bs) (record_length (count_in bs)))

-- 7: a line number outside 1 to 55, or not above the one before (0 before the first)
unfoldable pub line_breaks : ℕ → List ℕ → Bool
line_breaks before [] = false
line_breaks before (l ∷ ls) = leb l before || (ltb 55 l || line_breaks l ls)

-- 8: a fraction is 0
unfoldable pub fraction_zero : List ℕ → Bool
fraction_zero [] = false
fraction_zero (x ∷ xs) = eqb x 0 || fraction_zero xs

-- 9: sum outside its range, which ends at 1,000,100
abbrev pub least_sum : ℕ
least_sum = 999900

abbrev pub sum_outside : ℕ → Bool
sum_outside sum = ltb sum least_sum || ltb most_sum sum

-- 10: methane too low, below 500,000; in the hydrogen class it has no lower limit
abbrev pub methane_low : Bool → ℕ → Bool
methane_low class x = not class && ltb x least_methane

-- 11: a line other than water above its limit
abbrev pub above_limit : Bool → ℕ → ℕ → Bool
above_limit class l x = not (eqb l (unlimited class)) && not (eqb l water) && ltb (limit_of class l) x

unfoldable pub any_above : Bool → List ℕ → List ℕ → Bool
any_above class [] xs = false
any_above class (l ∷ ls) [] = false
any_above class (l ∷ ls) (x ∷ xs) = above_limit class l x || any_above class ls xs

-- 12: water above 200
abbrev pub water_high : Bool → ℕ → Bool
water_high class x = ltb (limit_of class water) x

-- 19: the two lists differ in length
abbrev pub lists_differ : List ℕ → List ℕ → Bool
lists_differ ls xs = not (eqb (length ls) (length xs))

-- 20: buffer shorter than 8 + 5n
abbrev pub room_short : ℕ → ℕ → Bool
room_short room n = ltb room (record_length n)

-- 2 to 6, from whether each of them holds
abbrev pub fields_order : Bool → Bool → Bool → Bool → Bool → Order
fields_order two three four five six = (2, two) ∷ (3, three) ∷ (4, four) ∷ (5, five) ∷ (6, six) ∷ []

-- 10, 11, 12 and 9, from whether each of them holds, with 9 as the first argument
abbrev pub limits_order : Bool → Bool → Bool → Bool → Order
limits_order nine ten eleven twelve = (10, ten) ∷ (11, eleven) ∷ (12, twelve) ∷ (9, nine) ∷ []

-- 19, 4 and 5, from whether each of them holds
abbrev pub lists_order : Bool → Bool → Bool → Order
lists_order nineteen four five = (19, nineteen) ∷ (4, four) ∷ (5, five) ∷ []

-- What is made of whether the sum is outside, methane low, another line above its limit, and water high, for line numbers and fractions:
-- by the limits outside the hydrogen class or in it, and by those of their own class
abbrev pub by_limits : {A : Type 0} → (Bool → Bool → Bool → Bool → A) → List ℕ → List ℕ → Bool → A
by_limits make ls xs class =
    make (sum_outside (total xs)) (methane_low class (fraction_for methane ls xs)) (any_above class ls xs) (water_high class (fraction_for water ls xs))

abbrev pub from_limits : {A : Type 0} → (Bool → Bool → Bool → Bool → A) → List ℕ → List ℕ → A
from_limits make ls xs = by_limits make ls xs (in_class ls xs)

-- 7, and 8, 10 to 12 and 9, of line numbers and fractions
abbrev pub lines_order : List ℕ → Order
lines_order ls = (7, line_breaks 0 ls) ∷ []

abbrev pub fractions_order : List ℕ → List ℕ → Order
fractions_order ls xs = (8, fraction_zero xs) ∷ from_limits limits_order ls xs

-- the order of a record, in two parts: 1 to 6, and 7, 8, 10 to 12 and 9, which the writer shares
abbrev pub head_order : List ℕ → Order
head_order bs =
    (1, too_short bs)
    ∷ fields_order (mark_differs bs) (version_differs bs) (pair_refused (combustion_in bs) (metering_in bs)) (count_outside (count_in bs)) (length_differs bs)

abbrev pub content_order : List ℕ → List ℕ → Order
content_order ls xs = lines_order ls ++ fractions_order ls xs

abbrev pub record_order : List ℕ → Order
record_order bs = head_order bs ++ content_order (lines_in bs) (fractions_in bs)

-- the order of the writer, in three parts: 19, 4 and 5; 7, 8, 10 to 12 and 9; 20 for a buffer of room bytes
abbrev pub start_order : Contents → Order
start_order k = lists_order (lists_differ k.lines k.fractions) (pair_refused k.combustion k.metering) (count_outside (length k.lines))

abbrev pub room_order : ℕ → ℕ → Order
room_order room n = (20, room_short room n) ∷ []

abbrev pub writer_order : Contents → ℕ → Order
writer_order k room = start_order k ++ (content_order k.lines k.fractions ++ room_order room (length k.lines))

-- the first two parts
abbrev pub given_order : Contents → Order
given_order k = start_order k ++ content_order k.lines k.fractions

-- the numbers of the content, and of a record, in the order in which they are tried
abbrev pub content_numbers : List ℕ
content_numbers = 7 ∷ 8 ∷ 10 ∷ 11 ∷ 12 ∷ 9 ∷ []

abbrev pub record_numbers : List ℕ
record_numbers = 1 ∷ 2 ∷ 3 ∷ 4 ∷ 5 ∷ 6 ∷ content_numbers

-- a record tries its numbers, and the writer 19, 4, 5, those of the content, 20, whatever the input
abbrev pub RecordNumbers : Type 0
RecordNumbers = (bs : List ℕ) → numbers_of (record_order bs) ≡ record_numbers

abbrev pub WriterNumbers : Type 0
WriterNumbers = (k : Contents) (room : ℕ) → numbers_of (writer_order k room) ≡ 19 ∷ 4 ∷ 5 ∷ content_numbers ++ (20 ∷ [])
