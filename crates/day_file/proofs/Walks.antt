-- The walk from the first block by the two calls.
use mathlib.Core.Path.{◌≡◌, refl, sym, ap, subst, ◌∙◌}
use mathlib.Core.Bool.{Bool, true, false, cond}
use mathlib.Core.List.{List, [], ◌++◌}
use mathlib.Core.Logic.{⊎_elim}
use Prim.Native.Nat.{ℕ, ◌+◌, ◌≤◌, ◌<◌}
use native.Mathlib.Nat.{add_assoc}
use native.Mathlib.Omega.{arith}
use lib.Dec.{eqb, ltb}
use lib.ListN.{length, take, drop}
use Rattle.std.specs.Prelude.{Some}
use Rattle.std.proofs.lemmas.List.{length-drop, length-take-le, drop-drop, take-append-drop}
use Rattle.std.proofs.lemmas.Bool.{le-ltb, lt-ltb, eq-eqb, eqb-false, ne_eqb, ltb-false, or_from, or_parts, cases_Bool, cases_lt}
use Rattle.records.specs.Order.{Outcome, refused, accepted, first_of, mapped}
use Rattle.records.proofs.OrderLaws.{decided_accepted, unmet}
use Rattle.day_file.specs.Format.{first_block, no_day_file, length_in, block_in, after_block, no_block, Split, split_all, blocks_of, file_order}
use Rattle.day_file.specs.Walk.{offset_outside, cut_at, walk_order, Place, block, end, place_in, place_of, offset, next_after, next_of, bytes_where, block_of, Walked, ends, stops, visits, WalkGivesBlocks, SameWalk, OneWalk, BlockIsPart, EndsAt, BlockEndsAtNext}
use Rattle.day_file.proofs.Splits.{whole_block, by_blocks, ended, split_ended, split_begun, block_and_rest}

-- the offset after a block
abbrev next_in : List ℕ → ℕ → ℕ
next_in file at = at + 2 + length_in (drop at file)

-- from there on stand the bytes after the block
rest_at : (file : List ℕ) (at : ℕ) → drop (next_in file at) file ≡ after_block (drop at file)
rest_at file at = ap (λ (i : ℕ). drop i file) (add_assoc at 2 (length_in (drop at file))) ∙ sym (drop-drop (2 + length_in (drop at file)) at file)

-- the number with which a walk stops before bytes that are left over
abbrev number_left : List ℕ → ℕ
number_left bytes = cond (ltb 0 (length bytes)) 23 0

-- the walk of these blocks, up to what is left over of them
abbrev WalkedAs : List ℕ → ℕ → Split → Type 0
WalkedAs file at s = Walked file at s.blocks (number_left s.left)

-- an offset in a file that 21 does not refuse, and the bytes from there on: none, no whole block, or one
module _ (file : List ℕ) (day : no_day_file file ≡ false)
    (at : ℕ) (low : first_block ≤ at) (high : at ≤ length file) (rest : List ℕ) (here : drop at file ≡ rest) where
  inside : offset_outside file at ≡ false
  inside = or_from _ _ (le-ltb at first_block low) (le-ltb (length file) at high)

  counted : at + length rest ≡ length file
  counted = omega (arith, length-drop at file, ap length here)

  place_end : at ≡ length file → place_of file at ≡ accepted end
  place_end e = rw (day, inside, le-ltb at (length file) (omega arith), eq-eqb at (length file) e)

  place_cut : at < length file → no_block rest ≡ true → place_of file at ≡ refused 23
  place_cut l e = rw (day, inside, lt-ltb at (length file) l, here, e)

  place_block : no_block rest ≡ false → place_of file at ≡ accepted (block (block_in rest) (at + 2 + length_in rest))
  place_block e =
      let shorter : at < length file = omega (arith, whole_block rest e, counted) in
      rw (day, inside, lt-ltb at (length file) shorter, here, e, ne_eqb at (length file) (λ q. omega arith))

  -- with no whole block there, the walk ends or stops; with one, it goes on after it
  walk_over : no_block rest ≡ true → WalkedAs file at (split_all rest)
  walk_over e = rw (split_ended rest e) (⊎_elim cut over (cases_lt at (length file)))
    where
      cut : at < length file → WalkedAs file at (ended rest)
      cut l =
          let p = place_cut l e in
          rw (lt-ltb 0 (length rest) (omega (arith, counted))) (stops at 23 (ap (mapped next_after) p) (ap bytes_where p))

      over : length file ≤ at → WalkedAs file at (ended rest)
      over l =
          let p = place_end (omega arith) in
          rw (le-ltb 0 (length rest) (omega (arith, counted))) (ends at (ap (mapped next_after) p) (ap bytes_where p))

  walk_on : no_block rest ≡ false → WalkedAs file (at + 2 + length_in rest) (split_all (after_block rest)) → WalkedAs file at (split_all rest)
  walk_on e w =
      let p = place_block e in
      rw (split_begun rest e) (visits at _ (block_in rest) _ _ (ap (mapped next_after) p) (ap bytes_where p) w)

  next_low : first_block ≤ at + 2 + length_in rest
  next_low = omega arith

  next_high : no_block rest ≡ false → at + 2 + length_in rest ≤ length file
  next_high e = omega (arith, whole_block rest e, counted)

  next_here : drop (at + 2 + length_in rest) file ≡ after_block rest
  next_here = rw (← here) (rest_at file at)

-- so the walk goes over all of them, from any such offset
abbrev WalksFrom : List ℕ → List ℕ → Type 0
WalksFrom file rest = (at : ℕ) → first_block ≤ at → at ≤ length file → drop at file ≡ rest → WalkedAs file at (split_all rest)

walks_from : (file : List ℕ) → no_day_file file ≡ false → (rest : List ℕ) → WalksFrom file rest
walks_from file day =
    by_blocks (WalksFrom file)
    (λ rest e at low high here. walk_over file day at low high rest here e)
    (λ rest e on at low high here. walk_on file day at low high rest here e
    (on (at + 2 + length_in rest) (next_low file day at low high rest here) (next_high file day at low high rest here e)
    (next_here file day at low high rest here)))

abbrev GivesBlocks : List ℕ → Type 0
GivesBlocks file = Walked file first_block (cond (no_day_file file) [] (blocks_of file)) (first_of (file_order file))

pub walk_gives_blocks : WalkGivesBlocks
walk_gives_blocks file = ⊎_elim none some (cases_Bool (no_day_file file))
  where
    none : no_day_file file ≡ true → GivesBlocks file
    none e = rw e (stops first_block 21 (rw e) (rw e))

    some : no_day_file file ≡ false → GivesBlocks file
    some e =
        rw e (walks_from file e (drop first_block file) first_block (omega arith) (ltb-false (length file) first_block (or_parts _ _ e).0) refl)

-- two walks from one offset take the same steps
same_walk : (file : List ℕ) (at : ℕ) (bs : List (List ℕ)) (n : ℕ) → Walked file at bs n
    → (cs : List (List ℕ)) (m : ℕ) → Walked file at cs m → SameWalk bs n cs m
same_walk file at bs n (ends _ e f) cs m (ends _ g h) = record { blocks = refl; number = refl }
same_walk file at bs n (ends _ e f) cs m (stops _ k g h) = absurd cc
same_walk file at bs n (ends _ e f) cs m (visits _ next c ds k g h w) = absurd cc
same_walk file at bs n (stops _ k e f) cs m (ends _ g h) = absurd cc
same_walk file at bs n (stops _ k e f) cs m (stops _ l g h) = record { blocks = refl; number = cc }
same_walk file at bs n (stops _ k e f) cs m (visits _ next c ds l g h w) = absurd cc
same_walk file at bs n (visits _ next b ds k e f v) cs m (ends _ g h) = absurd cc
same_walk file at bs n (visits _ next b ds k e f v) cs m (stops _ l g h) = absurd cc
same_walk file at bs n (visits _ next b ds k e f v) cs m (visits _ after c es l g h w) =
    let on : after ≡ next = cc in
    let rest = same_walk file next ds k v es l (subst (λ (i : ℕ). Walked file i es l) on w) in
    record { blocks = cc; number = rest.number }

pub one_walk : OneWalk
one_walk file at bs cs n m v w = same_walk file at bs n v cs m w

-- where the two calls give a block, it is what stands at the offset
placed : (file b : List ℕ) (at next : ℕ) → next_of file at ≡ accepted (offset next) → block_of file at ≡ Some b → place_of file at ≡ accepted (block b next)
placed file b at next = go (place_of file at)
  where
    go : (p : Outcome Place) → mapped next_after p ≡ accepted (offset next) → bytes_where p ≡ Some b → p ≡ accepted (block b next)
    go (refused n) e f = cc
    go (accepted end) e f = cc
    go (accepted (block c n)) e f = cc

-- a whole block, and the offset after it
record StandsAt (file b : List ℕ) (at next : ℕ) : Type 0 where
  block : b ≡ block_in (drop at file)
  after : next ≡ next_in file at
  whole : no_block (drop at file) ≡ false
  inside : at ≤ length file

module _ (file b : List ℕ) (at next : ℕ) (p : place_of file at ≡ accepted (block b next)) where
  passed : (first_of (walk_order file at) ≡ 0) × (place_in file at ≡ block b next)
  passed = decided_accepted (first_of (walk_order file at)) (place_in file at) (block b next) p

  before_end : offset_outside file at ≡ false → at ≤ length file
  before_end e = ltb-false (length file) at (or_parts (ltb at first_block) _ e).1

  uncut : cut_at file at ≡ false → at < length file → no_block (drop at file) ≡ false
  uncut e l = rw (lt-ltb at (length file) l) at e

  stands_at : StandsAt file b at next
  stands_at =
      let unmet_at = unmet (walk_order file at) tt passed.0 in
      go (eqb at (length file)) refl passed.1 (before_end (unmet_at 22)) (uncut (unmet_at 23))
    where
      go : (x : Bool) → eqb at (length file) ≡ x → cond x end (block (block_in (drop at file)) (next_in file at)) ≡ block b next
          → at ≤ length file → (at < length file → no_block (drop at file) ≡ false) → StandsAt file b at next
      go true is e inside whole = absurd cc
      go false is e inside whole =
          let off : at ≡ length file → ⊥ = eqb-false at (length file) is in
          record { block = cc; after = cc; whole = whole (omega arith); inside = inside }

-- of a block that is handed back
module _ (file b : List ℕ) (at next : ℕ) (e : next_of file at ≡ accepted (offset next)) (f : block_of file at ≡ Some b) where
  handed : StandsAt file b at next
  handed = stands_at file b at next (placed file b at next e f)

  part : file ≡ take (at + 2) file ++ (b ++ drop next file)
  part = rw (handed.block, handed.after, rest_at file at, block_and_rest (drop at file), drop-drop 2 at file, take-append-drop (at + 2) file)

  ends_at : EndsAt file b at next
  ends_at =
      let d = drop at file in
      let fits = whole_block d handed.whole in
      let n = length-take-le (length_in d) (drop 2 d) (omega (arith, length-drop 2 d)) in
      record { after = omega (arith, ap length handed.block, handed.after); within = omega (arith, handed.after, handed.inside, length-drop at file) }

pub block_is_part : BlockIsPart
block_is_part = part

pub block_ends_at_next : BlockEndsAtNext
block_ends_at_next = ends_at
