-- A file made from blocks, and the blocks of a file made into a file again.
use mathlib.Core.Path.{◌≡◌, refl, sym, ap, ◌∙◌}
use mathlib.Core.Bool.{◌&&◌, ◌||◌, false, not}
use mathlib.Core.List.{List, [], ◌∷◌, ◌++◌, append_assoc, append-nil}
use Prim.Native.Nat.{ℕ, zero, suc, ◌+◌, ◌*◌, ◌/◌, ◌%◌, ◌≤◌}
use native.Mathlib.Omega.{arith}
use lib.Dec.{eqb, ltb}
use lib.ListN.{length, get_or, drop}
use Rattle.std.proofs.lemmas.List.{length-append, length-drop, length-take-le, take_at, drop_at, drop-drop, get_or-drop}
use Rattle.std.proofs.lemmas.Bool.{ltb-false, le-ltb, eqb-true, not-false, and_parts, or_parts, or_from}
use Rattle.records.specs.Format.{Bytes}
use Rattle.records.proofs.OrderLaws.{unmet}
use Rattle.day_file.specs.Format.{version, first_block, has_mark, version_in, no_day_file, length_in, block_in, after_block, no_block, Split, split_all, blocks_of, file_order, block_bytes, blocks_bytes, head_bytes, file_of, most_length, EachFits}
use Rattle.day_file.specs.Walk.{MadeGivesBack, MadeIsWalkedBack, FileIsMadeOfBlocks, BlocksFit}
use Rattle.day_file.proofs.Splits.{whole_block, block_and_rest, by_blocks, split_ended, split_begun}
use Rattle.day_file.proofs.Walks.{walk_gives_blocks}

-- the bytes of a block, and others after it
module _ (b rest : List ℕ) (fits : length b ≤ most_length) where
  abbrev both : List ℕ
  both = block_bytes b ++ rest

  length_back : length_in both ≡ length b
  length_back = omega arith

  whole_back : no_block both ≡ false
  whole_back =
      or_from _ _ (le-ltb (length both) 2 (omega arith))
      (le-ltb (length both) (2 + length_in both) (omega (arith, length_back, length-append b rest)))

  block_back : block_in both ≡ b
  block_back = take_at b rest (length_in both) (sym length_back)

  rest_back : after_block both ≡ rest
  rest_back = sym (drop-drop (length_in both) 2 both) ∙ drop_at b rest (length_in both) (sym length_back)

-- of blocks one after the other, all are whole and nothing is left over
split_back : (bs : List (List ℕ)) → EachFits bs → split_all (blocks_bytes bs) ≡ record { blocks = bs; left = [] }
split_back [] fits = split_ended [] refl
split_back (b ∷ bs) fits =
    let more = blocks_bytes bs in
    split_begun (block_bytes b ++ more) (whole_back b more (fits 0)) ∙ rw (block_back b more (fits 0), rest_back b more (fits 0), split_back bs (λ i. fits (suc i)))

day_file_made : (bs : List (List ℕ)) → no_day_file (file_of bs) ≡ false
day_file_made bs = rw (le-ltb (length (file_of bs)) first_block (omega arith))

pub made_gives_back : MadeGivesBack
made_gives_back bs fits =
    let e = split_back bs fits in record { blocks = ap (λ (s : Split). s.blocks) e; number = rw (day_file_made bs, e) }

pub made_is_walked_back : MadeIsWalkedBack
made_is_walked_back bs fits =
    let m = made_gives_back bs fits in rw (m.number, day_file_made bs, m.blocks) at (walk_gives_blocks (file_of bs))

-- bytes with a whole block at their front begin with the bytes of that block
block_again : (bs : List ℕ) → Bytes bs → no_block bs ≡ false → block_bytes (block_in bs) ++ after_block bs ≡ bs
block_again (x ∷ y ∷ rest) b e =
    let bs : List ℕ = x ∷ y ∷ rest in
    let n : length (block_in bs) ≡ length_in bs = length-take-le (length_in bs) rest (omega (arith, whole_block bs e)) in
    let low : length_in bs % 256 ≡ x = omega (arith, b 0) in
    let high : length_in bs / 256 % 256 ≡ y = omega (arith, b 0, b 1) in
    rw (n, low, high, block_and_rest bs)
block_again bs b e = absurd (omega (arith, whole_block bs e))

-- the bytes of the blocks, and then those that are left over
abbrev bytes_again : Split → List ℕ
bytes_again s = blocks_bytes s.blocks ++ s.left

abbrev IsAgain : List ℕ → Type 0
IsAgain bs = Bytes bs → bytes_again (split_all bs) ≡ bs

split_again : (bs : List ℕ) → IsAgain bs
split_again = by_blocks IsAgain (λ bs e b. ap bytes_again (split_ended bs e)) one
  where
    one : (bs : List ℕ) → no_block bs ≡ false → IsAgain (after_block bs) → IsAgain bs
    one bs e again b =
        let s = split_all (after_block bs) in
        ap bytes_again (split_begun bs e)
        ∙ append_assoc (block_bytes (block_in bs)) (blocks_bytes s.blocks) s.left
        ∙ ap (λ (t : List ℕ). block_bytes (block_in bs) ++ t) (again (λ i. rw get_or-drop (b (2 + length_in bs + i))))
        ∙ block_again bs b e

-- the bytes before the first block
head_and_rest : (file : List ℕ) → first_block ≤ length file
    → get_or file 0 0 ∷ get_or file 1 0 ∷ get_or file 2 0 ∷ get_or file 3 0 ∷ get_or file 4 0 ∷ drop first_block file ≡ file
head_and_rest (a ∷ b ∷ c ∷ d ∷ e ∷ rest) h = refl
head_and_rest file h = absurd (omega arith)

head_again : (file : List ℕ) → no_day_file file ≡ false → head_bytes ++ drop first_block file ≡ file
head_again file day =
    let p = or_parts (ltb (length file) first_block) (not (has_mark file) || not (eqb (version_in file) version)) day in
    let q = or_parts (not (has_mark file)) (not (eqb (version_in file) version)) p.1 in
    let m = and_parts (eqb (get_or file 0 0) 71 && eqb (get_or file 1 0) 68) (eqb (get_or file 2 0) 70) (not-false (has_mark file) q.0) in
    let l = and_parts (eqb (get_or file 0 0) 71) (eqb (get_or file 1 0) 68) m.0 in
    let v : get_or file 3 0 + 256 * get_or file 4 0 ≡ 1 = eqb-true (version_in file) version (not-false (eqb (version_in file) version) q.1) in
    let low : get_or file 3 0 ≡ 1 = omega arith in
    let high : get_or file 4 0 ≡ 0 = omega arith in
    rw (eqb-true _ _ l.0, eqb-true _ _ l.1, eqb-true _ _ m.1, low, high) at (head_and_rest file (ltb-false (length file) first_block p.0))

pub file_is_made_of_blocks : FileIsMadeOfBlocks
file_is_made_of_blocks file b h =
    let day = unmet (file_order file) tt h 21 in
    let rest : List ℕ = drop first_block file in
    let none : (split_all rest).left ≡ [] = nothing (split_all rest).left (unmet (file_order file) tt h 23) in
    let again = split_again rest (λ i. rw get_or-drop (b (first_block + i))) in
    ap (λ (t : List ℕ). head_bytes ++ t) (sym (append-nil (blocks_bytes (blocks_of file))) ∙ rw none at again)
    ∙ head_again file day
  where
    nothing : (l : List ℕ) → ltb 0 (length l) ≡ false → l ≡ []
    nothing [] e = refl
    nothing (x ∷ l) e = absurd (omega (arith, ltb-false 0 (length (x ∷ l)) e))

-- a whole block has at most as many bytes as its length says, and the length has 16 bits
abbrev IsFit : List ℕ → Type 0
IsFit bs = Bytes bs → EachFits (split_all bs).blocks

each_fits : (bs : List ℕ) → IsFit bs
each_fits = by_blocks IsFit (λ bs e b i. rw (split_ended bs e) (omega arith)) one
  where
    one : (bs : List ℕ) → no_block bs ≡ false → IsFit (after_block bs) → IsFit bs
    one bs e rest b = rw (split_begun bs e) each
      where
        each : EachFits (block_in bs ∷ (split_all (after_block bs)).blocks)
        each zero = omega (arith, length-take-le (length_in bs) (drop 2 bs) (omega (arith, whole_block bs e, length-drop 2 bs)), b 0, b 1)
        each (suc i) = rest (λ j. rw get_or-drop (b (2 + length_in bs + j))) i

pub blocks_fit : BlocksFit
blocks_fit file b = each_fits (drop first_block file) (λ i. rw get_or-drop (b (first_block + i)))
