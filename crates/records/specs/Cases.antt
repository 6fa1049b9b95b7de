-- The record part of the cases K1 to K8 of document 01, the pairs, the limits, outside the hydrogen class and in it, and damaged input:
-- lists, each with a test that computes.
use Rattle.std.specs.Prelude.{◌≡◌, Bool, true, false, ◌&&◌, List, [], ◌∷◌, ◌++◌, ℕ, zero, suc, ◌+◌, ◌-◌, eqb, length, take, set, replicate}
use Rattle.components.specs.Tests.{all}
use Rattle.records.specs.Order.{Outcome, refused, accepted, decided}
use Rattle.records.specs.Format.{Contents, contents, mark, bytes_of}
use Rattle.records.specs.Calls.{reading_of, writing_of}

-- two lists are the same
unfoldable pub same_list : List ℕ → List ℕ → Bool
same_list [] [] = true
same_list [] (y ∷ ys) = false
same_list (x ∷ xs) [] = false
same_list (x ∷ xs) (y ∷ ys) = eqb x y && same_list xs ys

-- the same pair, line numbers and fractions
abbrev pub same_contents : Contents → Contents → Bool
same_contents a b =
    eqb a.combustion b.combustion && eqb a.metering b.metering && same_list a.lines b.lines && same_list a.fractions b.fractions

-- the same number, or answers that pass a test
unfoldable pub same_outcome : {A : Type 0} → (A → A → Bool) → Outcome A → Outcome A → Bool
same_outcome same (refused n) (refused m) = eqb n m
same_outcome same (refused n) (accepted b) = false
same_outcome same (accepted a) (refused m) = false
same_outcome same (accepted a) (accepted b) = same a b

-- a record, its contents, and the number that refuses both the record and the writing of it, 0 where both are accepted
pub record Case : Type 0 where
  pub contents : Contents
  pub bytes : List ℕ
  pub number : ℕ

-- read, the record gives its contents or the number; written into a buffer of just its size, the contents give the record or the number
abbrev pub case_holds : Case → Bool
case_holds c =
    same_outcome same_contents (reading_of c.bytes) (decided c.number c.contents)
    && same_outcome same_list (writing_of c.contents (replicate (length c.bytes) 0)) (decided c.number c.bytes)

-- contents with the bytes that the format gives them
abbrev pub given : Contents → ℕ → Case
given k n = record { contents = k; bytes = bytes_of k; number = n }

-- the gas of K1, annex D of source document 002, at a pair
abbrev pub annex_d : ℕ → ℕ → Contents
annex_d c m = contents c m (1 ∷ 2 ∷ 3 ∷ 4 ∷ 5 ∷ 6 ∷ 52 ∷ 54 ∷ []) (924700 ∷ 35000 ∷ 9800 ∷ 2200 ∷ 3400 ∷ 600 ∷ 17500 ∷ 6800 ∷ [])

-- the same with nitrogen, its entry 6 from 0, at 400,000, which takes the sum to 1,382,500
abbrev pub nitrogen_high : Contents
nitrogen_high = contents 15 15 (annex_d 15 15).lines (set (annex_d 15 15).fractions 6 400000)

-- the record of K2, as printed
abbrev pub k2 : List ℕ
k2 = 0x47 ∷ 0x43 ∷ 0x52 ∷ 0x01 ∷ 0x00 ∷ 0x0F ∷ 0x0F ∷ 0x01 ∷ 0x01 ∷ 0x40 ∷ 0x42 ∷ 0x0F ∷ 0x00 ∷ []

-- K3 to K7, and the second of K8, name no pair: they stand at 15/15
abbrev pub cases : List Case
cases =
    given (annex_d 15 15) 0  -- K1
    ∷ record { contents = contents 15 15 (1 ∷ []) (1000000 ∷ []); bytes = k2; number = 0 }  -- K2
    ∷ given (contents 15 15 (1 ∷ []) (999900 ∷ [])) 0  -- K3
    ∷ given (contents 15 15 (1 ∷ []) (1000100 ∷ [])) 0
    ∷ given (contents 15 15 (1 ∷ []) (999899 ∷ [])) 9
    ∷ given (contents 15 15 (1 ∷ []) (1000101 ∷ [])) 9
    ∷ given (contents 15 15 (1 ∷ 52 ∷ []) (700000 ∷ 300000 ∷ [])) 0  -- K4
    ∷ given (contents 15 15 (1 ∷ 52 ∷ []) (699999 ∷ 300001 ∷ [])) 11
    ∷ given (contents 15 15 (1 ∷ 2 ∷ 52 ∷ 54 ∷ []) (500000 ∷ 50000 ∷ 300000 ∷ 150000 ∷ [])) 0  -- K5
    ∷ given (contents 15 15 (1 ∷ 2 ∷ 52 ∷ 54 ∷ []) (499999 ∷ 50001 ∷ 300000 ∷ 150000 ∷ [])) 10
    ∷ given (contents 15 15 (1 ∷ 42 ∷ []) (999800 ∷ 200 ∷ [])) 0  -- K6
    ∷ given (contents 15 15 (1 ∷ 42 ∷ []) (999799 ∷ 201 ∷ [])) 12
    ∷ given (contents 15 15 (1 ∷ 55 ∷ []) (950000 ∷ 50000 ∷ [])) 0  -- K7
    ∷ given (contents 25 15 (1 ∷ []) (1000000 ∷ [])) 4  -- K8
    ∷ given (contents 15 15 (1 ∷ 1 ∷ []) (500000 ∷ 500000 ∷ [])) 7
    ∷ []

-- n numbers upward from one
unfoldable pub up_from : ℕ → ℕ → List ℕ
up_from zero from = []
up_from (suc n) from = from ∷ up_from n (from + 1)

-- each of the 55 lines
abbrev pub all_lines : List ℕ
all_lines = up_from 55 1

-- the numbers 10, 11 and 12, each beside 9 and beside those after it; and 9 alone, with methane, ethane, water, nitrogen and carbon dioxide
-- on their limits, and with sums of 2^32 - 1 and of 2^32 + 1,000,000
abbrev pub limit_cases : List Case
limit_cases =
    given nitrogen_high 11
    ∷ given (contents 15 15 (1 ∷ []) (499999 ∷ [])) 10
    ∷ given (contents 15 15 (2 ∷ []) (1000000 ∷ [])) 10  -- no methane; 10 before 11
    ∷ given (contents 15 15 (1 ∷ 42 ∷ 52 ∷ []) (499999 ∷ 201 ∷ 400000 ∷ [])) 10  -- 9, 10, 11 and 12 hold
    ∷ given (contents 15 15 (1 ∷ 42 ∷ 55 ∷ []) (949798 ∷ 201 ∷ 50001 ∷ [])) 11  -- 11 before 12
    ∷ given (contents 15 15 (1 ∷ 42 ∷ 52 ∷ []) (600000 ∷ 201 ∷ 400000 ∷ [])) 11  -- 9, 11 and 12 hold
    ∷ given (contents 15 15 all_lines (replicate 55 4294967295)) 11
    ∷ given (contents 15 15 (1 ∷ 42 ∷ []) (999900 ∷ 201 ∷ [])) 12
    ∷ given (contents 15 15 (1 ∷ 2 ∷ 42 ∷ 52 ∷ 54 ∷ []) (500000 ∷ 150000 ∷ 200 ∷ 300000 ∷ 150000 ∷ [])) 9
    ∷ given (contents 15 15 (1 ∷ []) (4294967295 ∷ [])) 9
    ∷ given (contents 15 15 (1 ∷ 2 ∷ up_from 9 3 ++ (52 ∷ 54 ∷ [])) (4294967295 ∷ 150000 ∷ 1 ∷ replicate 8 50000 ++ (300000 ∷ 150000 ∷ []))) 9
    ∷ []

-- a gas with each of them, 1,000,000 in all; and one of the hydrogen class
abbrev pub full_gas : Contents
full_gas = contents 25 20 all_lines (973300 ∷ replicate 40 500 ++ (200 ∷ replicate 13 500))

abbrev pub full_class_gas : Contents
full_class_gas = contents 25 20 all_lines (replicate 40 500 ++ (973300 ∷ 200 ∷ replicate 13 500))

-- around the limits of the hydrogen class: hydrogen 900,000 and 899,999, methane and water on their limits and one above, the sums on and
-- past theirs, 11 before 12, and 12 before 9; no methane, and methane that would be enough outside the class
abbrev pub class_cases : List Case
class_cases =
    given (contents 15 15 (1 ∷ 41 ∷ 52 ∷ []) (50000 ∷ 900000 ∷ 50000 ∷ [])) 0
    ∷ given (contents 15 15 (1 ∷ 41 ∷ 52 ∷ []) (50001 ∷ 900000 ∷ 49999 ∷ [])) 11
    ∷ given (contents 15 15 (1 ∷ 41 ∷ 52 ∷ []) (50000 ∷ 899999 ∷ 50001 ∷ [])) 10
    ∷ given (contents 15 15 (41 ∷ []) (1000000 ∷ [])) 0
    ∷ given (contents 15 15 (41 ∷ []) (999900 ∷ [])) 0
    ∷ given (contents 15 15 (41 ∷ []) (1000100 ∷ [])) 0
    ∷ given (contents 15 15 (41 ∷ []) (999899 ∷ [])) 9
    ∷ given (contents 15 15 (41 ∷ []) (1000101 ∷ [])) 9
    ∷ given (contents 15 15 (41 ∷ []) (900000 ∷ [])) 9
    ∷ given (contents 15 15 (41 ∷ 42 ∷ []) (999800 ∷ 200 ∷ [])) 0
    ∷ given (contents 15 15 (41 ∷ 42 ∷ []) (999799 ∷ 201 ∷ [])) 12
    ∷ given (contents 15 15 (41 ∷ 42 ∷ 52 ∷ []) (949798 ∷ 201 ∷ 50001 ∷ [])) 11
    ∷ given (contents 15 15 (41 ∷ 42 ∷ []) (999900 ∷ 201 ∷ [])) 12
    ∷ given (contents 15 15 (1 ∷ 41 ∷ []) (100000 ∷ 900000 ∷ [])) 11
    ∷ given (contents 15 15 (1 ∷ 41 ∷ []) (500000 ∷ 900000 ∷ [])) 11
    ∷ given (contents 15 15 (41 ∷ []) (4294967295 ∷ [])) 9
    ∷ []

-- a record at 25/20, byte by byte: methane 1,000,000
abbrev pub two_temperatures : Case
two_temperatures =
    record {
      contents = contents 25 20 (1 ∷ []) (1000000 ∷ []);
      bytes = 0x47 ∷ 0x43 ∷ 0x52 ∷ 0x01 ∷ 0x00 ∷ 0x19 ∷ 0x14 ∷ 0x01 ∷ 0x01 ∷ 0x40 ∷ 0x42 ∷ 0x0F ∷ 0x00 ∷ [];
      number = 0;
    }

-- pairs of the temperatures 0, 15, 20 and 25, combustion/metering, and what they give
abbrev pub pairs : List (ℕ × (ℕ × ℕ))
pairs =
    (0, (0, 0)) ∷ (0, (15, 4)) ∷ (0, (20, 4)) ∷ (0, (25, 4))
    ∷ (15, (0, 0)) ∷ (15, (15, 0)) ∷ (15, (20, 4)) ∷ (15, (25, 4))
    ∷ (20, (0, 4)) ∷ (20, (15, 4)) ∷ (20, (20, 0)) ∷ (20, (25, 4))
    ∷ (25, (0, 0)) ∷ (25, (15, 4)) ∷ (25, (20, 0)) ∷ (25, (25, 4))
    ∷ []

-- a gas of a line beside a main one is accepted with the line on its limit, and with 1 ppm more of it gives the number
abbrev pub limit_holds : (ℕ → ℕ → List ℕ × List ℕ) → ℕ → ℕ → ℕ → Bool
limit_holds beside limit number line =
    let on : List ℕ × List ℕ = beside line limit in
    let past : List ℕ × List ℕ = beside line (limit + 1) in
    case_holds (given (contents 15 15 on.0 on.1) 0) && case_holds (given (contents 15 15 past.0 past.1) number)

-- a line beside methane; and beside hydrogen, before or after it
abbrev pub beside_methane : ℕ → ℕ → List ℕ × List ℕ
beside_methane line x = (1 ∷ line ∷ [], (1000000 - x) ∷ x ∷ [])

abbrev pub before_hydrogen : ℕ → ℕ → List ℕ × List ℕ
before_hydrogen line x = (line ∷ 41 ∷ [], x ∷ (1000000 - x) ∷ [])

abbrev pub after_hydrogen : ℕ → ℕ → List ℕ × List ℕ
after_hydrogen line x = (41 ∷ line ∷ [], (1000000 - x) ∷ x ∷ [])

-- the lines other than methane, ethane, water, nitrogen and carbon dioxide
abbrev pub other_lines : List ℕ
other_lines = up_from 39 3 ++ up_from 9 43 ++ (53 ∷ 55 ∷ [])

-- the first 8 bytes of a record at 15/15: mark, low and high byte of the version, count
abbrev pub head : List ℕ → ℕ → ℕ → ℕ → List ℕ
head marks low high n = marks ++ (low ∷ high ∷ 15 ∷ 15 ∷ n ∷ [])

-- an entry: methane 1,000,000
abbrev pub entry : List ℕ
entry = 1 ∷ 0x40 ∷ 0x42 ∷ 0x0F ∷ 0x00 ∷ []

-- bytes and the number that refuses them
abbrev pub damaged : List (List ℕ × ℕ)
damaged =
    ([], 1)
    ∷ (take 7 k2, 1)
    ∷ (head (71 ∷ 67 ∷ 83 ∷ []) 1 0 1 ++ entry, 2)
    ∷ (head (103 ∷ 67 ∷ 82 ∷ []) 2 0 1 ++ entry, 2)  -- 2 before 3
    ∷ (head mark 2 0 1 ++ entry, 3)
    ∷ (head mark 1 1 1 ++ entry, 3)  -- version 257
    ∷ (mark ++ (2 ∷ 0 ∷ 25 ∷ 15 ∷ 1 ∷ []) ++ entry, 3)  -- 3 before 4
    ∷ (mark ++ (1 ∷ 0 ∷ 25 ∷ 15 ∷ 0 ∷ []), 4)  -- 4 before 5
    ∷ (head mark 1 0 0, 5)
    ∷ (head mark 1 0 56 ++ replicate 280 1, 5)
    ∷ (head mark 1 0 255, 5)  -- 255 entries claimed
    ∷ (head mark 1 0 255 ++ replicate 1275 1, 5)
    ∷ (take 8 k2, 6)  -- bytes 0 to 7 alone
    ∷ (take 12 k2, 6)
    ∷ (k2 ++ (0 ∷ []), 6)  -- a byte after the last entry
    ∷ (k2 ++ entry, 6)
    ∷ (bytes_of (contents 15 15 (0 ∷ []) (1000000 ∷ [])), 7)
    ∷ (bytes_of (contents 15 15 (1 ∷ 56 ∷ []) (999999 ∷ 1 ∷ [])), 7)
    ∷ (bytes_of (contents 15 15 (1 ∷ 3 ∷ 2 ∷ []) (999998 ∷ 1 ∷ 1 ∷ [])), 7)
    ∷ (bytes_of (contents 15 15 (1 ∷ 2 ∷ 2 ∷ []) (0 ∷ 999999 ∷ 1 ∷ [])), 7)  -- 7 over all entries before 8
    ∷ (bytes_of (contents 15 15 (1 ∷ 2 ∷ []) (1000000 ∷ 0 ∷ [])), 8)
    ∷ (bytes_of (contents 15 15 (1 ∷ 2 ∷ []) (1 ∷ 0 ∷ [])), 8)  -- 8 before 10
    ∷ []

-- contents, the size of a buffer, and the number that refuses the writing
abbrev pub refused_writes : List (Contents × (ℕ × ℕ))
refused_writes =
    (contents 15 15 (1 ∷ 2 ∷ []) (1000000 ∷ []), (300, 19))
    ∷ (contents 1 1 (1 ∷ []) [], (0, 19))  -- 19 before 4
    ∷ (contents 25 15 [] [], (0, 4))  -- 4 before 5
    ∷ (contents 15 15 [] [], (300, 5))
    ∷ (contents 15 15 (up_from 56 1) (replicate 56 1), (300, 5))
    ∷ (contents 15 15 (1 ∷ []) (999899 ∷ []), (0, 9))  -- 9 before 20
    ∷ (contents 15 15 (1 ∷ []) (1000000 ∷ []), (12, 20))  -- a byte short
    ∷ (contents 15 15 (1 ∷ []) (1000000 ∷ []), (0, 20))
    ∷ []

-- buffers, and what writing K2 gives: only the first 13 bytes change
abbrev pub buffers : List (List ℕ × Outcome (List ℕ))
buffers =
    (replicate 12 9, refused 20)
    ∷ (replicate 13 9, accepted k2)
    ∷ (replicate 15 9, accepted (k2 ++ (9 ∷ 9 ∷ [])))
    ∷ []

abbrev pub CasesHold : Type 0
CasesHold = all case_holds cases ≡ true

abbrev pub FullGasHolds : Type 0
FullGasHolds = case_holds (given full_gas 0) ≡ true

abbrev pub PairsHold : Type 0
PairsHold =
    (case_holds two_temperatures && all (λ (p : ℕ × (ℕ × ℕ)). case_holds (given (contents p.0 p.1.0 (1 ∷ []) (1000000 ∷ [])) p.1.1)) pairs) ≡ true

abbrev pub LimitCasesHold : Type 0
LimitCasesHold = all case_holds limit_cases ≡ true

abbrev pub LimitsHold : Type 0
LimitsHold =
    (limit_holds beside_methane 300000 11 52
    && limit_holds beside_methane 150000 11 2
    && limit_holds beside_methane 150000 11 54
    && limit_holds beside_methane 200 12 42
    && all (limit_holds beside_methane 50000 11) other_lines)
    ≡ true

abbrev pub FullClassGasHolds : Type 0
FullClassGasHolds = case_holds (given full_class_gas 0) ≡ true

abbrev pub ClassCasesHold : Type 0
ClassCasesHold = all case_holds class_cases ≡ true

-- the 40 lines before hydrogen, and the 13 after water
abbrev pub ClassLimitsHold : Type 0
ClassLimitsHold =
    (all (limit_holds before_hydrogen 50000 11) (up_from 40 1) && limit_holds after_hydrogen 200 12 42 && all (limit_holds after_hydrogen 50000 11) (up_from 13 43)) ≡ true

abbrev pub DamagedRefused : Type 0
DamagedRefused = all (λ (c : List ℕ × ℕ). same_outcome same_contents (reading_of c.0) (refused c.1)) damaged ≡ true

abbrev pub WritesRefused : Type 0
WritesRefused = all (λ (c : Contents × (ℕ × ℕ)). same_outcome same_list (writing_of c.0 (replicate c.1.0 0)) (refused c.1.1)) refused_writes ≡ true

abbrev pub BuffersHold : Type 0
BuffersHold =
    all (λ (c : List ℕ × Outcome (List ℕ)). same_outcome same_list (writing_of (contents 15 15 (1 ∷ []) (1000000 ∷ [])) c.0) c.1) buffers ≡ true
