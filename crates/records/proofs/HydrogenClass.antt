-- Outside the hydrogen class each condition is the former one, and in it each of the former orders had a condition that holds.
use mathlib.Core.Path.{◌≡◌, refl, ap, ◌∙◌}
use mathlib.Core.Bool.{Bool, true, false, ◌||◌, cond}
use mathlib.Core.List.{List, [], ◌∷◌, ◌++◌}
use Prim.Native.Nat.{ℕ, ◌≤◌}
use native.Mathlib.Omega.{arith}
use borrow.Author.Tests.{ltb-false}
use lib.Dec.{T, eqb, eqb→eq, leb→le}
use lib.ListN.{length}
use Rattle.std.proofs.lemmas.Bool.{or_parts}
use Rattle.components.specs.Composition.{hydrogen, least_hydrogen, in_class, fraction_for}
use Rattle.records.specs.Order.{Order, first_of, decided}
use Rattle.records.specs.Format.{lines_in, fractions_in, contents_in, bytes_of, placed}
use Rattle.records.specs.Conditions.{ethane, water, nitrogen, carbon_dioxide, limit_of, any_above, content_order, head_order, record_order, start_order, room_order, writer_order}
use Rattle.records.specs.ByOrder.{writer_order_by}
use Rattle.records.specs.HydrogenClass.{former_limit_of, former_above_limit, former_any_above, classless_content_order, classless_record_order, record_in_class, ReadingStays, WritingStays, AlwaysRefused, AlwaysRefusedWriting, AcceptedReadingStays, AcceptedWritingStays, NoTenInClass, NoTenInClassWriting}
use Rattle.records.proofs.OrderLaws.{unmet, clear_first, clear_second, decided_accepted, not_refused}

-- the limit of a line is the former one
same_limit : (l : ℕ) → limit_of false l ≡ former_limit_of l
same_limit l =
    go (eqb l water) (eqb l nitrogen) (eqb l ethane || eqb l carbon_dioxide) (λ w n. apart w n) (λ w n. apart_two w n)
  where
    go : (w n e : Bool) → (T w → T n → ⊥) → (T w → T e → ⊥)
        → ◌≡◌ {A = ℕ} (cond w 200 (cond n 300000 (cond e 150000 50000))) (cond n 300000 (cond e 150000 (cond w 200 50000)))
    go true true e a b = absurd (a tt tt)
    go true false true a b = absurd (b tt tt)
    go true false false a b = refl
    go false n e a b = refl

    apart : T (eqb l water) → T (eqb l nitrogen) → ⊥
    apart w n = omega (arith, eqb→eq l water w, eqb→eq l nitrogen n)

    apart_two : T (eqb l water) → T (eqb l ethane || eqb l carbon_dioxide) → ⊥
    apart_two w e = rw (eqb→eq l water w) at e

same_above : (ls xs : List ℕ) → any_above false ls xs ≡ former_any_above ls xs
unfolding any_above former_any_above
same_above [] xs = refl
same_above (l ∷ ls) [] = refl
same_above (l ∷ ls) (x ∷ xs) = rw (same_limit l, same_above ls xs) refl

same_content : (ls xs : List ℕ) → in_class ls xs ≡ false → content_order ls xs ≡ classless_content_order ls xs
same_content ls xs e = rw (e, same_above ls xs) refl

pub same_record_order : (bs : List ℕ) → record_in_class bs ≡ false → record_order bs ≡ classless_record_order bs
same_record_order bs e = ap (λ (o : Order). head_order bs ++ o) (same_content (lines_in bs) (fractions_in bs) e)

pub reading_stays : ReadingStays
reading_stays bs e = ap (λ (o : Order). decided (first_of o) (contents_in bs)) (same_record_order bs e)

pub writing_stays : WritingStays
writing_stays k old e =
    ap (λ (o : Order). decided (first_of (start_order k ++ (o ++ room_order (length old) (length k.lines)))) (placed old 0 (bytes_of k))) (same_content k.lines k.fractions e)

-- where the former 11 did not hold, hydrogen was at most 50,000
hydrogen_few : (ls xs : List ℕ) → former_any_above ls xs ≡ false → fraction_for hydrogen ls xs ≤ 50000
unfolding former_any_above fraction_for
hydrogen_few [] xs e = omega arith
hydrogen_few (l ∷ ls) [] e = omega arith
hydrogen_few (l ∷ ls) (x ∷ xs) e =
    go (eqb l hydrogen) (λ t. eqb→eq l hydrogen t) (hydrogen_few ls xs (or_parts (former_above_limit l x) (former_any_above ls xs) e).1)
  where
    go : (is : Bool) → (T is → l ≡ hydrogen) → fraction_for hydrogen ls xs ≤ 50000 → cond is x (fraction_for hydrogen ls xs) ≤ 50000
    go true is h = let p = (or_parts (former_above_limit l x) (former_any_above ls xs) e).0 in ltb-false 50000 x (rw (is tt) at p)
    go false is h = h

outside : (ls xs : List ℕ) → first_of (classless_content_order ls xs) ≡ 0 → in_class ls xs ≡ false
outside ls xs e = go (in_class ls xs) (λ t. leb→le _ _ t)
  where
    few : fraction_for hydrogen ls xs ≤ 50000
    few = hydrogen_few ls xs (unmet (classless_content_order ls xs) tt e 11)

    go : (class : Bool) → (T class → least_hydrogen ≤ fraction_for hydrogen ls xs) → class ≡ false
    go true is = absurd (omega (arith, is tt, few))
    go false is = refl

-- where no former condition of a record held, it is outside the class
pub outside_of_clear : (bs : List ℕ) → first_of (classless_record_order bs) ≡ 0 → record_in_class bs ≡ false
outside_of_clear bs e = outside (lines_in bs) (fractions_in bs) (clear_second (head_order bs) (classless_content_order (lines_in bs) (fractions_in bs)) tt e)

pub always_refused : AlwaysRefused
always_refused bs k e = outside_of_clear bs (decided_accepted (first_of (classless_record_order bs)) (contents_in bs) k e).0

pub always_refused_writing : AlwaysRefusedWriting
always_refused_writing k old new e =
    let d = decided_accepted (first_of (writer_order_by classless_content_order k (length old))) (placed old 0 (bytes_of k)) new e in
    let o = classless_content_order k.lines k.fractions in
    outside k.lines k.fractions (clear_first o (room_order (length old) (length k.lines)) tt (clear_second (start_order k) (o ++ room_order (length old) (length k.lines)) tt d.0))

pub accepted_reading_stays : AcceptedReadingStays
accepted_reading_stays bs k e = reading_stays bs (always_refused bs k e) ∙ e

pub accepted_writing_stays : AcceptedWritingStays
accepted_writing_stays k old new e = writing_stays k old (always_refused_writing k old new e) ∙ e

pub no_ten_in_class : NoTenInClass
no_ten_in_class bs e = not_refused 10 (record_order bs) (contents_in bs) (rw e tt)

pub no_ten_in_class_writing : NoTenInClassWriting
no_ten_in_class_writing k old e = not_refused 10 (writer_order k (length old)) (placed old 0 (bytes_of k)) (rw e tt)
