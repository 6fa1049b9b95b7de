-- The whole blocks at the front of bytes, one by one.
use mathlib.Core.Path.{◌≡◌, refl, sym, ap, ◌∙◌}
use mathlib.Core.Bool.{Bool, true, false, cond}
use mathlib.Core.List.{List, [], ◌∷◌, ◌++◌}
use mathlib.Core.Logic.{⊎_elim}
use Prim.Native.Nat.{ℕ, zero, suc, ◌+◌, ◌≤◌, ◌<◌}
use native.Mathlib.Omega.{arith}
use lib.ListN.{length, drop}
use Rattle.std.specs.Prelude.{Option, Some, None}
use Rattle.std.proofs.lemmas.List.{length-drop, drop-drop, take-append-drop}
use Rattle.std.proofs.lemmas.Bool.{ltb-false, lt-ltb, or_left, or_parts, cases_Bool}
use Rattle.day_file.specs.Format.{length_in, block_in, after_block, no_block, Split, split, split_all}
use Rattle.day_file.specs.Answers.{front_of}

-- bytes with no whole block at their front, and bytes with one
abbrev pub ended : List ℕ → Split
ended bs = record { blocks = []; left = bs }

abbrev pub begun : List ℕ → Split → Split
begun bs s = record { blocks = block_in bs ∷ s.blocks; left = s.left }

pub no_block_of_short : (bs : List ℕ) → length bs < 2 → no_block bs ≡ true
no_block_of_short bs h = or_left _ _ (lt-ltb (length bs) 2 h)

-- a block at the front takes two bytes and those that they count
pub whole_block : (bs : List ℕ) → no_block bs ≡ false → 2 + length_in bs ≤ length bs
whole_block bs e = ltb-false (length bs) (2 + length_in bs) (or_parts _ _ e).1

-- its bytes, and then those after it, are all but the two length bytes
pub block_and_rest : (bs : List ℕ) → block_in bs ++ after_block bs ≡ drop 2 bs
block_and_rest bs = ap (λ (t : List ℕ). block_in bs ++ t) (sym (drop-drop (length_in bs) 2 bs)) ∙ take-append-drop (length_in bs) (drop 2 bs)

-- what holds of bytes with no whole block at their front, and of bytes with one where it holds of those after it, holds of all bytes
pub by_blocks : (P : List ℕ → Type 0) → ((bs : List ℕ) → no_block bs ≡ true → P bs)
    → ((bs : List ℕ) → no_block bs ≡ false → P (after_block bs) → P bs) → (bs : List ℕ) → P bs
by_blocks P none some bs = go (length bs) bs (omega arith)
  where
    go : (n : ℕ) (bs : List ℕ) → length bs ≤ n → P bs
    go zero bs few = none bs (no_block_of_short bs (omega arith))
    go (suc n) bs few =
        ⊎_elim (none bs)
        (λ (e : no_block bs ≡ false). some bs e (go n (after_block bs) (omega (arith, whole_block bs e, length-drop (2 + length_in bs) bs))))
        (cases_Bool (no_block bs))

-- any number of steps that is not below the number of bytes does
enough : (n m : ℕ) (bs : List ℕ) → length bs ≤ n → length bs ≤ m → split n bs ≡ split m bs
unfolding split
enough zero zero bs p q = refl
enough zero (suc m) bs p q = rw (no_block_of_short bs (omega arith))
enough (suc n) zero bs p q = rw (no_block_of_short bs (omega arith))
enough (suc n) (suc m) bs p q = ap (λ (s : Split). cond (no_block bs) (ended bs) (begun bs s)) (enough n m (after_block bs) shorter-n shorter-m)
  where
    shorter-n : length (after_block bs) ≤ n
    shorter-n = omega (arith, length-drop (2 + length_in bs) bs)

    shorter-m : length (after_block bs) ≤ m
    shorter-m = omega (arith, length-drop (2 + length_in bs) bs)

-- all of them, where no block stands at the front, and where one does
pub split_ended : (bs : List ℕ) → no_block bs ≡ true → split_all bs ≡ ended bs
unfolding split
split_ended bs e = enough (length bs) (suc (length bs)) bs (omega arith) (omega arith) ∙ rw e

pub split_begun : (bs : List ℕ) → no_block bs ≡ false → split_all bs ≡ begun bs (split_all (after_block bs))
unfolding split
split_begun bs e =
    enough (length bs) (suc (length bs)) bs (omega arith) (omega arith)
    ∙ rw e
    (ap (begun bs) (enough (length bs) (length (after_block bs)) (after_block bs) (omega (arith, length-drop (2 + length_in bs) bs)) (omega arith)))

-- what the front of bytes tells
pub record Front (bs b after : List ℕ) : Type 0 where
  pub whole : no_block bs ≡ false
  pub block : b ≡ block_in bs
  pub rest : after ≡ after_block bs

pub front_some : (bs b after : List ℕ) → ◌≡◌ {A = Option (List ℕ × List ℕ)} (Some (b, after)) (front_of bs) → Front bs b after
front_some bs b after e = go (no_block bs) refl e
  where
    go : (x : Bool) → no_block bs ≡ x → ◌≡◌ {A = Option (List ℕ × List ℕ)} (Some (b, after)) (cond x None (Some (block_in bs, after_block bs))) → Front bs b after
    go true is h = cc
    go false is h =
        let same : ◌≡◌ {A = List ℕ × List ℕ} (b, after) (block_in bs, after_block bs) = cc in
        record { whole = is; block = ap (λ (p : List ℕ × List ℕ). p.0) same; rest = ap (λ (p : List ℕ × List ℕ). p.1) same }

pub front_none : (bs : List ℕ) → ◌≡◌ {A = Option (List ℕ × List ℕ)} None (front_of bs) → no_block bs ≡ true
front_none bs e = go (no_block bs) refl e
  where
    go : (x : Bool) → no_block bs ≡ x → ◌≡◌ {A = Option (List ℕ × List ℕ)} None (cond x None (Some (block_in bs, after_block bs))) → no_block bs ≡ true
    go true is h = is
    go false is h = cc

-- the blocks of bytes: none without a whole one at the front; else that one, and those of the bytes after it
pub blocks_ended : (bs : List ℕ) → no_block bs ≡ true → (split_all bs).blocks ≡ []
blocks_ended bs e = ap (λ (s : Split). s.blocks) (split_ended bs e)

pub blocks_begun : (bs b after : List ℕ) → Front bs b after → (split_all bs).blocks ≡ b ∷ (split_all after).blocks
blocks_begun bs b after f = rw (f.block, f.rest) (ap (λ (s : Split). s.blocks) (split_begun bs f.whole))
