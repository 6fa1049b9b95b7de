-- Offsets in day files and in damaged ones, and what the walk gives there; files, and what each gives as a whole: lists, each with a test
-- that computes.
use Rattle.std.specs.Prelude.{◌≡◌, Bool, true, false, ◌&&◌, List, [], ◌∷◌, ◌++◌, ℕ, ◌^◌, ◌-◌, eqb, replicate}
use Rattle.components.specs.Tests.{all}
use Rattle.records.specs.Order.{Outcome, refused, accepted}
use Rattle.records.specs.Cases.{same_list, same_outcome}
use Rattle.day_file.specs.Format.{parsed_of, file_of}
use Rattle.day_file.specs.Walk.{Place, block, end, place_of}

abbrev pub same_place : Place → Place → Bool
same_place (block b n) (block c m) = same_list b c && eqb n m
same_place (block b n) end = false
same_place end (block c m) = false
same_place end end = true

unfoldable pub same_blocks : List (List ℕ) → List (List ℕ) → Bool
same_blocks [] [] = true
same_blocks [] (c ∷ cs) = false
same_blocks (b ∷ bs) [] = false
same_blocks (b ∷ bs) (c ∷ cs) = same_list b c && same_blocks bs cs

-- the head, byte by byte, and a file with a block of three bytes, an empty one, and one of a byte
abbrev pub head : List ℕ
head = 0x47 ∷ 0x44 ∷ 0x46 ∷ 0x01 ∷ 0x00 ∷ []

abbrev pub three : List ℕ
three = head ++ (0x03 ∷ 0x00 ∷ 7 ∷ 8 ∷ 9 ∷ 0x00 ∷ 0x00 ∷ 0x01 ∷ 0x00 ∷ 6 ∷ [])

-- a block whose length is 256 + 2, in two bytes
abbrev pub long_block : List ℕ
long_block = replicate 258 5

abbrev pub walks : List (List ℕ × (ℕ × Outcome Place))
walks =
    (three, (5, accepted (block (7 ∷ 8 ∷ 9 ∷ []) 10)))
    ∷ (three, (10, accepted (block [] 12)))  -- an empty block
    ∷ (three, (12, accepted (block (6 ∷ []) 15)))
    ∷ (three, (15, accepted end))
    ∷ (three, (16, refused 22))
    ∷ (three, (2 ^ 64 - 1, refused 22))
    ∷ (three, (4, refused 22))
    ∷ (three, (0, refused 22))
    ∷ (three, (6, refused 23))  -- within a block: its bytes read as the length 1,792
    ∷ (three, (14, refused 23))  -- one byte before the end
    ∷ (head, (5, accepted end))
    ∷ (head ++ (0x02 ∷ 0x01 ∷ long_block), (5, accepted (block long_block 265)))
    ∷ (head ++ (0x03 ∷ 0x01 ∷ long_block), (5, refused 23))  -- a byte short
    ∷ (head ++ (0x00 ∷ []), (5, refused 23))  -- the length cut in half
    ∷ (head ++ (0xFF ∷ 0xFF ∷ []), (5, refused 23))
    ∷ ([], (5, refused 21))
    ∷ (0x47 ∷ 0x44 ∷ 0x46 ∷ 0x01 ∷ [], (4, refused 21))  -- 21 before 22
    ∷ (0x47 ∷ 0x43 ∷ 0x52 ∷ 0x01 ∷ 0x00 ∷ [], (5, refused 21))  -- a record's mark
    ∷ (0x47 ∷ 0x44 ∷ 0x46 ∷ 0x02 ∷ 0x00 ∷ [], (9, refused 21))  -- version 2
    ∷ (0x47 ∷ 0x44 ∷ 0x46 ∷ 0x01 ∷ 0x01 ∷ 0x00 ∷ [], (5, refused 21))  -- version 257; 21 before 23
    ∷ []

abbrev pub files : List (List ℕ × Outcome (List (List ℕ)))
files =
    (three, accepted ((7 ∷ 8 ∷ 9 ∷ []) ∷ [] ∷ (6 ∷ []) ∷ []))
    ∷ (file_of ((7 ∷ 8 ∷ 9 ∷ []) ∷ [] ∷ (6 ∷ []) ∷ []), accepted ((7 ∷ 8 ∷ 9 ∷ []) ∷ [] ∷ (6 ∷ []) ∷ []))
    ∷ (file_of (long_block ∷ []), accepted (long_block ∷ []))
    ∷ (head, accepted [])
    ∷ (three ++ (0x01 ∷ []), refused 23)
    ∷ (three ++ (0x01 ∷ 0x00 ∷ []), refused 23)
    ∷ (0x47 ∷ 0x44 ∷ 0x46 ∷ 0x01 ∷ [], refused 21)
    ∷ (0x47 ∷ 0x44 ∷ 0x46 ∷ 0x00 ∷ 0x00 ∷ 0x01 ∷ [], refused 21)  -- 21 before 23
    ∷ []

abbrev pub WalksHold : Type 0
WalksHold = all (λ (c : List ℕ × (ℕ × Outcome Place)). same_outcome same_place (place_of c.0 c.1.0) c.1.1) walks ≡ true

abbrev pub FilesHold : Type 0
FilesHold = all (λ (c : List ℕ × Outcome (List (List ℕ))). same_outcome same_blocks (parsed_of c.0) c.1) files ≡ true
