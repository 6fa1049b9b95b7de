-- The blocks of a file counted, block by block.
use mathlib.Core.Path.{◌≡◌, refl, ap, ◌∙◌}
use mathlib.Core.Bool.{true}
use mathlib.Core.List.{List}
use Prim.Native.Nat.{ℕ, ◌+◌, ◌≤◌}
use native.Mathlib.Omega.{arith}
use lib.Dec.{ltb}
use lib.ListN.{length, drop}
use Rattle.std.proofs.lemmas.List.{length-drop}
use Rattle.day_file.specs.Format.{first_block, length_in, no_block, Split, split_all, blocks_of, cut_short}
use Rattle.day_file.proofs.Splits.{split_ended, split_begun, Front, whole_block}

-- those counted and those of the rest are all of the file's, and what is left over of both is the same
pub record Counted (file : List ℕ) (count : ℕ) (rest : List ℕ) : Type 0 where
  pub blocks : length (blocks_of file) ≡ count + length (split_all rest).blocks
  pub left : (split_all (drop first_block file)).left ≡ (split_all rest).left
  pub few : count + length rest ≤ length file

module _ (file : List ℕ) where
  pub at_first : Counted file 0 (drop first_block file)
  at_first = record { blocks = omega arith; left = refl; few = omega (arith, length-drop first_block file) }

  pub one_more : {count : ℕ} {rest b after : List ℕ} → Counted file count rest → Front rest b after → Counted file (count + 1) after
  one_more {count} {rest} c f =
      let s = split_begun rest f.whole in
      rw f.rest
      (record {
        blocks = c.blocks ∙ ap (λ (s : Split). count + length s.blocks) s ∙ omega arith;
        left = c.left ∙ ap (λ (s : Split). s.left) s;
        few = omega (arith, c.few, whole_block rest f.whole, length-drop (2 + length_in rest) rest);
      })

  -- the last
  pub fits : {count : ℕ} {rest b after : List ℕ} → Counted file count rest → Front rest b after → count + 1 ≤ length file
  fits c f = omega (arith, (one_more c f).few)

  -- with no whole block more: what is left over are the bytes that remain
  pub counted_all : {count : ℕ} {rest : List ℕ} → Counted file count rest → no_block rest ≡ true →
      (length (blocks_of file) ≡ count) × (cut_short file ≡ ltb 0 (length rest))
  counted_all {count} {rest} c e =
      let s = split_ended rest e in
      (c.blocks ∙ ap (λ (s : Split). count + length s.blocks) s ∙ omega arith, ap (λ (l : List ℕ). ltb 0 (length l)) (c.left ∙ ap (λ (s : Split). s.left) s))
