-- The day file of document 02, W-206: a mark, a version, and blocks one after the other. Numbers stand as in a record, least significant byte
-- first.
use Rattle.std.specs.Prelude.{Bool, not, ◌&&◌, ◌||◌, cond, List, [], ◌∷◌, ◌++◌, ℕ, zero, suc, ◌+◌, ◌/◌, ◌%◌, ◌≤◌, eqb, ltb, length, get_or, take, drop}
use Rattle.records.specs.Order.{Order, Outcome, first_of, decided}
use Rattle.records.specs.Format.{number2}

-- bytes 0 to 2: mark GDF
abbrev pub mark : List ℕ
mark = 71 ∷ 68 ∷ 70 ∷ []

-- bytes 3 and 4: version, 1
abbrev pub version : ℕ
version = 1

-- where the blocks begin
abbrev pub first_block : ℕ
first_block = 5

-- the mark stands in bytes 0 to 2; the version in bytes 3 and 4
abbrev pub has_mark : List ℕ → Bool
has_mark file = eqb (get_or file 0 0) (get_or mark 0 0) && eqb (get_or file 1 0) (get_or mark 1 0) && eqb (get_or file 2 0) (get_or mark 2 0)

abbrev pub version_in : List ℕ → ℕ
version_in file = number2 file 3

-- 21: file shorter than 5 bytes, or wrong mark or version
abbrev pub no_day_file : List ℕ → Bool
no_day_file file = ltb (length file) first_block || (not (has_mark file) || not (eqb (version_in file) version))

-- a block at the front of bytes: its 16-bit length, its bytes, and what comes after it
abbrev pub length_in : List ℕ → ℕ
length_in bs = number2 bs 0

abbrev pub block_in : List ℕ → List ℕ
block_in bs = take (length_in bs) (drop 2 bs)

abbrev pub after_block : List ℕ → List ℕ
after_block bs = drop (2 + length_in bs) bs

-- bytes that hold no whole block at their front: one of the two length bytes is missing, or one of the bytes that they count
abbrev pub no_block : List ℕ → Bool
no_block bs = ltb (length bs) 2 || ltb (length bs) (2 + length_in bs)

-- the whole blocks that stand in bytes one after the other, and the bytes that are left over
pub record Split : Type 0 where
  pub blocks : List (List ℕ)
  pub left : List ℕ

-- at most n blocks of them; each takes two bytes or more, so there are never more than bytes
unfoldable pub split : ℕ → List ℕ → Split
split zero bs = record { blocks = []; left = bs }
split (suc n) bs =
    cond (no_block bs) (record { blocks = []; left = bs })
    (record { blocks = block_in bs ∷ (split n (after_block bs)).blocks; left = (split n (after_block bs)).left })

-- all of them
abbrev pub split_all : List ℕ → Split
split_all bs = split (length bs) bs

-- of a file
abbrev pub blocks_of : List ℕ → List (List ℕ)
blocks_of file = (split_all (drop first_block file)).blocks

-- 23, of a whole file: its last block is cut short by its end
abbrev pub cut_short : List ℕ → Bool
cut_short file = ltb 0 (length (split_all (drop first_block file)).left)

-- a whole file tries 21, 23
abbrev pub file_order : List ℕ → Order
file_order file = (21, no_day_file file) ∷ (23, cut_short file) ∷ []

-- what a file gives: its blocks, or the number
abbrev pub parsed_of : List ℕ → Outcome (List (List ℕ))
parsed_of file = decided (first_of (file_order file)) (blocks_of file)

-- the bytes of a block, of blocks one after the other, and of a file
abbrev pub block_bytes : List ℕ → List ℕ
block_bytes b = length b % 256 ∷ length b / 256 % 256 ∷ b

abbrev pub blocks_bytes : List (List ℕ) → List ℕ
blocks_bytes [] = []
blocks_bytes (b ∷ bs) = block_bytes b ++ blocks_bytes bs

abbrev pub head_bytes : List ℕ
head_bytes = mark ++ (version % 256 ∷ version / 256 ∷ [])

abbrev pub file_of : List (List ℕ) → List ℕ
file_of bs = head_bytes ++ blocks_bytes bs

-- the most bytes of a block
abbrev pub most_length : ℕ
most_length = 65535

-- every block of a list has a length of 16 bits
abbrev pub EachFits : List (List ℕ) → Type 0
EachFits bs = (i : ℕ) → length (get_or bs i []) ≤ most_length
