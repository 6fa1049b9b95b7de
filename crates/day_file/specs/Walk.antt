-- The walk of a day file: what stands at an offset. And that the walk from the first block visits each block of the file once, in order, and
-- ends.
use Rattle.std.specs.Prelude.{◌≡◌, Bool, ◌&&◌, ◌||◌, cond, List, [], ◌∷◌, ◌++◌, ℕ, ◌+◌, ◌≤◌, eqb, ltb, length, take, drop, Option, Some, None}
use Rattle.records.specs.Order.{Order, Outcome, refused, accepted, first_of, numbers_of, decided, mapped}
use Rattle.records.specs.Format.{Bytes}
use Rattle.day_file.specs.Format.{first_block, no_day_file, length_in, block_in, no_block, blocks_of, file_order, file_of, EachFits}

-- 22: offset below 5 or past the end
abbrev pub offset_outside : List ℕ → ℕ → Bool
offset_outside file at = ltb at first_block || ltb (length file) at

-- 23: block cut short by the file's end; at the end itself there is no block
abbrev pub cut_at : List ℕ → ℕ → Bool
cut_at file at = ltb at (length file) && no_block (drop at file)

-- the walk tries 21, 22, 23
abbrev pub walk_order : List ℕ → ℕ → Order
walk_order file at = (21, no_day_file file) ∷ (22, offset_outside file at) ∷ (23, cut_at file at) ∷ []

abbrev pub WalkNumbers : Type 0
WalkNumbers = (file : List ℕ) (at : ℕ) → numbers_of (walk_order file at) ≡ 21 ∷ 22 ∷ 23 ∷ []

-- and a whole file 21, 23
abbrev pub FileNumbers : Type 0
FileNumbers = (file : List ℕ) → numbers_of (file_order file) ≡ 21 ∷ 23 ∷ []

-- what stands at an offset: a block, with the offset after it, or the end of the file
pub data Place : Type 0 where
  block : List ℕ → ℕ → Place
  end : Place

-- where no number refuses: the end is at the file's length
abbrev pub place_in : List ℕ → ℕ → Place
place_in file at = cond (eqb at (length file)) end (block (block_in (drop at file)) (at + 2 + length_in (drop at file)))

abbrev pub place_of : List ℕ → ℕ → Outcome Place
place_of file at = decided (first_of (walk_order file at)) (place_in file at)

-- the first call: the next offset, or the end
pub data Next : Type 0 where
  offset : ℕ → Next
  at_end : Next

abbrev pub next_after : Place → Next
next_after (block b next) = offset next
next_after end = at_end

abbrev pub next_of : List ℕ → ℕ → Outcome Next
next_of file at = mapped next_after (place_of file at)

-- the second call: the bytes of the block, none where the first gives no block
abbrev pub bytes_at : Place → Option (List ℕ)
bytes_at (block b next) = Some b
bytes_at end = None

abbrev pub bytes_where : Outcome Place → Option (List ℕ)
bytes_where (refused n) = None
bytes_where (accepted p) = bytes_at p

abbrev pub block_of : List ℕ → ℕ → Option (List ℕ)
block_of file at = bytes_where (place_of file at)

-- the walk from an offset by the two calls: the blocks that it visits, in order, and the number with which it stops, 0 at the end of the file
pub data Walked (file : List ℕ) : ℕ → List (List ℕ) → ℕ → Type 0 where
  ends : (at : ℕ) → next_of file at ≡ accepted at_end → block_of file at ≡ None → Walked file at [] 0
  stops : (at n : ℕ) → next_of file at ≡ refused n → block_of file at ≡ None → Walked file at [] n
  visits : (at next : ℕ) (b : List ℕ) (bs : List (List ℕ)) (n : ℕ) → next_of file at ≡ accepted (offset next) → block_of file at ≡ Some b →
      Walked file next bs n → Walked file at (b ∷ bs) n

-- from the first block on, every file is walked to its end or to the block that is cut short, and the blocks visited are those of the file;
-- with 21 there is no block
abbrev pub WalkGivesBlocks : Type 0
WalkGivesBlocks = (file : List ℕ) → Walked file first_block (cond (no_day_file file) [] (blocks_of file)) (first_of (file_order file))

-- there is no other walk
pub record SameWalk (bs : List (List ℕ)) (n : ℕ) (cs : List (List ℕ)) (m : ℕ) : Type 0 where
  pub blocks : bs ≡ cs
  pub number : n ≡ m

abbrev pub OneWalk : Type 0
OneWalk = (file : List ℕ) (at : ℕ) (bs cs : List (List ℕ)) (n m : ℕ) → Walked file at bs n → Walked file at cs m → SameWalk bs n cs m

-- a block that is handed back is the part of the file between its two length bytes and the next offset
abbrev pub BlockIsPart : Type 0
BlockIsPart =
    (file b : List ℕ) (at next : ℕ) → next_of file at ≡ accepted (offset next) → block_of file at ≡ Some b →
    file ≡ take (at + 2) file ++ (b ++ drop next file)

-- it lies in the file, and ends at that offset
pub record EndsAt (file b : List ℕ) (at next : ℕ) : Type 0 where
  pub after : at + 2 + length b ≡ next
  pub within : next ≤ length file

abbrev pub BlockEndsAtNext : Type 0
BlockEndsAtNext = (file b : List ℕ) (at next : ℕ) → next_of file at ≡ accepted (offset next) → block_of file at ≡ Some b → EndsAt file b at next

-- neither 21 nor 23 refuses a file made from any list of blocks, each of at most 65,535 bytes, and its blocks are that list
pub record GivenBack (bs : List (List ℕ)) : Type 0 where
  pub blocks : blocks_of (file_of bs) ≡ bs
  pub number : first_of (file_order (file_of bs)) ≡ 0

abbrev pub MadeGivesBack : Type 0
MadeGivesBack = (bs : List (List ℕ)) → EachFits bs → GivenBack bs

-- it is walked back to that list
abbrev pub MadeIsWalkedBack : Type 0
MadeIsWalkedBack = (bs : List (List ℕ)) → EachFits bs → Walked (file_of bs) first_block bs 0

-- and a file that neither 21 nor 23 refuses is the one made from its blocks
abbrev pub FileIsMadeOfBlocks : Type 0
FileIsMadeOfBlocks = (file : List ℕ) → Bytes file → first_of (file_order file) ≡ 0 → file_of (blocks_of file) ≡ file

-- the blocks of every file are a list of such blocks
abbrev pub BlocksFit : Type 0
BlocksFit = (file : List ℕ) → Bytes file → EachFits (blocks_of file)
