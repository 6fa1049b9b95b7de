-- With 10, 11 and 12 before 9 the number of an order is `number_now` of the former one, whatever stands after the four, and before them
-- whatever does not try 9.
use mathlib.Core.Path.{◌≡◌, refl, sym, ap}
use mathlib.Core.Bool.{Bool, true, false, not, ◌&&◌, ◌||◌, cond}
use mathlib.Core.List.{List, [], ◌∷◌, ◌++◌}
use Prim.Native.Nat.{ℕ, zero, suc}
use lib.Dec.{T, eqb, eqb→eq}
use lib.ListN.{length}
use Rattle.std.proofs.lemmas.Bool.{and_right, or_parts}
use Rattle.components.specs.Composition.{total, fraction_for}
use Rattle.records.specs.Order.{Order, first_of, condition_of, refused, decided}
use Rattle.records.specs.Format.{lines_of, fractions_of, lines_in, fractions_in, contents_in, entries_bytes, bytes_of, placed}
use Rattle.records.specs.Conditions.{line_breaks, fraction_zero, any_above, limits_order, from_limits, lines_order, head_order, start_order, room_order}
use Rattle.records.specs.Cases.{same_list, same_outcome}
use Rattle.records.specs.LimitBeforeSum.{former_limits_order, FormerRecordNumbers, FormerWriterNumbers, FormerRecordConditions, FormerWriterConditions, first_limit, limit_number, number_now, renumbered, ReadingChange, WritingChange, NitrogenChange}

pub former_record_numbers_lem : FormerRecordNumbers
former_record_numbers_lem bs = refl

pub former_writer_numbers : FormerWriterNumbers
former_writer_numbers k room = refl

-- whether 9 is among the numbers of an order
abbrev pub tries_9 : Order → Bool
tries_9 [] = false
tries_9 ((n, holds) ∷ rest) = eqb n 9 || tries_9 rest

-- every number but 9 stays
other_stays : (limit n : ℕ) → eqb n 9 ≡ false → n ≡ number_now limit n
other_stays limit n h = ap (λ (b : Bool). cond b limit n) (sym (and_right (not (eqb limit 0)) (eqb n 9) h))

-- an order with these four between others
number_change : (a : Order) (nine ten eleven twelve : Bool) (b : Order) → tries_9 a ≡ false
    → first_of (a ++ (limits_order nine ten eleven twelve ++ b)) ≡ number_now (first_limit nine ten eleven twelve) (first_of (a ++ (former_limits_order nine ten eleven twelve ++ b)))
number_change [] true true eleven twelve b h = refl
number_change [] false true eleven twelve b h = refl
number_change [] true false true twelve b h = refl
number_change [] false false true twelve b h = refl
number_change [] true false false true b h = refl
number_change [] false false false true b h = refl
number_change [] nine false false false b h = refl
number_change ((n, true) ∷ rest) nine ten eleven twelve b h = other_stays (first_limit nine ten eleven twelve) n (or_parts _ _ h).0
number_change ((n, false) ∷ rest) nine ten eleven twelve b h = number_change rest nine ten eleven twelve b (or_parts _ _ h).1

-- the condition of each number is the same
nine_last : (is : Bool) (n : ℕ) (nine ten eleven twelve other : Bool) → (T is → 9 ≡ n)
    → cond is nine (cond (eqb 10 n) ten (cond (eqb 11 n) eleven (cond (eqb 12 n) twelve other)))
    ≡ cond (eqb 10 n) ten (cond (eqb 11 n) eleven (cond (eqb 12 n) twelve (cond is nine other)))
nine_last true n nine ten eleven twelve other e = rw (← (e tt)) refl
nine_last false n nine ten eleven twelve other e = refl

same_condition : (a : Order) (nine ten eleven twelve : Bool) (b : Order) (n : ℕ)
    → condition_of n (a ++ (former_limits_order nine ten eleven twelve ++ b)) ≡ condition_of n (a ++ (limits_order nine ten eleven twelve ++ b))
same_condition [] nine ten eleven twelve b n = nine_last (eqb 9 n) n nine ten eleven twelve (condition_of n b) (eqb→eq 9 n)
same_condition ((m, holds) ∷ rest) nine ten eleven twelve b n = ap (λ (c : Bool). cond (eqb m n) holds c) (same_condition rest nine ten eleven twelve b n)

-- the answer of a call by a number that changes so
answer_of : {A : Type 0} (changes : Bool) (limit number : ℕ) (a : A) → decided (cond changes (suc limit) (suc number)) a ≡ refused (cond changes (suc limit) (suc number))
answer_of true limit number a = refl
answer_of false limit number a = refl

pub answer_change : {A : Type 0} (limit number : ℕ) (a : A) → decided (number_now limit number) a ≡ renumbered limit (decided number a)
answer_change limit zero a = rw (and_right (not (eqb limit 0)) false refl) refl
answer_change zero (suc number) a = refl
answer_change (suc limit) (suc number) a = answer_of (not (eqb (suc limit) 0) && eqb (suc number) 9) limit number a

-- the same of an order with the conditions of line numbers and fractions between others
module _ (ls xs : List ℕ) where
  abbrev before_limits : Order
  before_limits = lines_order ls ++ ((8, fraction_zero xs) ∷ [])

  pub content_change : {A : Type 0} (before after : Order) (a : A) → tries_9 (before ++ before_limits) ≡ false
      → decided (first_of ((before ++ before_limits) ++ (from_limits limits_order ls xs ++ after))) a
      ≡ renumbered (limit_number ls xs) (decided (first_of ((before ++ before_limits) ++ (from_limits former_limits_order ls xs ++ after))) a)
  content_change before after a h = rw (number_change (before ++ before_limits) _ _ _ _ after h) (answer_change (limit_number ls xs) _ a)

  pub same_conditions : (before after : Order) (n : ℕ)
      → condition_of n ((before ++ before_limits) ++ (from_limits former_limits_order ls xs ++ after))
      ≡ condition_of n ((before ++ before_limits) ++ (from_limits limits_order ls xs ++ after))
  same_conditions before after n = same_condition (before ++ before_limits) _ _ _ _ after n

pub former_record_conditions : FormerRecordConditions
former_record_conditions bs = same_conditions (lines_in bs) (fractions_in bs) (head_order bs) []

pub former_writer_conditions : FormerWriterConditions
former_writer_conditions k room = same_conditions k.lines k.fractions (start_order k) (room_order room (length k.lines))

pub reading_change : ReadingChange
reading_change bs = content_change (lines_in bs) (fractions_in bs) (head_order bs) [] (contents_in bs) refl

pub writing_change : WritingChange
writing_change k old = content_change k.lines k.fractions (start_order k) (room_order (length old) (length k.lines)) (placed old 0 (bytes_of k)) refl

pub nitrogen_change : NitrogenChange
unfolding same_list same_outcome lines_of fractions_of entries_bytes line_breaks fraction_zero any_above total fraction_for
nitrogen_change = refl
