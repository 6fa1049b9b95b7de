-- The first bytes of an input decide what reading it gives.
use mathlib.Core.Path.{◌≡◌, refl, sym, ap, subst, ◌∙◌}
use mathlib.Core.Bool.{Bool, true, false, not}
use mathlib.Core.List.{List}
use Prim.Native.Nat.{ℕ, ◌≤◌, ◌<◌}
use mathlib.Core.Logic.{⊎_elim}
use native.Mathlib.Omega.{arith}
use borrow.Author.Tests.{le-ltb, ltb-false, ne_eqb}
use lib.Dec.{eqb}
use lib.ListN.{length, get_or, take}
use lib.Seq.{take_all, get_or-take, length-take-le}
use Rattle.std.proofs.lemmas.Bool.{cases_lt, or_parts}
use Rattle.records.specs.Order.{first_of, refused, decided}
use Rattle.records.specs.Format.{record_length, combustion_in, metering_in, count_in, lines_in, fractions_in, contents_in}
use Rattle.records.specs.Conditions.{mark_differs, version_differs, pair_refused, count_outside, length_differs, fields_order, head_order, content_order}
use Rattle.records.specs.Calls.{reading_of, enough, FirstBytesDecideReading}
use Rattle.records.proofs.OrderLaws.{stops, refuses}

-- the sixth condition holds where the fifth does not
record SixAfterFive (five six : Bool) : Type 0 where
  holds : five ≡ false → six ≡ true

-- then the order of the head's conditions has a number, and it does not depend on the sixth
some : (a b c d e : Bool) → SixAfterFive d e → first_of (fields_order a b c d e) ≡ 0 → ⊥
some true b c d e h z = omega arith
some false true c d e h z = omega arith
some false false true d e h z = omega arith
some false false false true e h z = omega arith
some false false false false e h z =
    let t : first_of (fields_order false false false false true) ≡ 0 = subst (λ (b : Bool). first_of (fields_order false false false false b) ≡ 0) (h.holds refl) z in omega arith

same : (a b c d e f : Bool) → SixAfterFive d e → SixAfterFive d f → first_of (fields_order a b c d e) ≡ first_of (fields_order a b c d f)
same true b c d e f h k = refl
same false true c d e f h k = refl
same false false true d e f h k = refl
same false false false true e f h k = refl
same false false false false e f h k = rw (h.holds refl, k.holds refl)

-- a length above that of any record
long : (size n : ℕ) → enough ≤ size → SixAfterFive (count_outside n) (not (eqb size (record_length n)))
long size n h =
    record { holds = λ e. let few = ltb-false 55 n (or_parts (eqb n 0) _ e).1 in ap not (ne_eqb size (record_length n) (λ q. omega arith)) }

-- the number of the head, of 8 bytes or more
number : List ℕ → ℕ
number bs =
    first_of (fields_order (mark_differs bs) (version_differs bs) (pair_refused (combustion_in bs) (metering_in bs)) (count_outside (count_in bs)) (length_differs bs))

-- such a list is refused by the number of its head
module _ (bs : List ℕ) (h : enough ≤ length bs) where
  head_is : first_of (head_order bs) ≡ number bs
  unfolding number
  head_is = rw (le-ltb (length bs) 8 (omega arith))

  not_zero : number bs ≡ 0 → ⊥
  unfolding number
  not_zero = some (mark_differs bs) (version_differs bs) (pair_refused (combustion_in bs) (metering_in bs)) (count_outside (count_in bs)) (length_differs bs) (long (length bs) (count_in bs) h)

  refused_long : reading_of bs ≡ refused (number bs)
  refused_long =
      let e = stops (head_order bs) (content_order (lines_in bs) (fractions_in bs)) (sym head_is) not_zero in
      ap (λ (k : ℕ). decided k (contents_in bs)) (sym e) ∙ refuses (number bs) (contents_in bs) not_zero

-- which its first bytes have too
module _ (bs : List ℕ) (h : enough ≤ length bs) where
  front : (i : ℕ) → i < 8 → get_or (take enough bs) i 0 ≡ get_or bs i 0
  front i l = get_or-take enough bs i 0 (omega arith)

  cut : length (take enough bs) ≡ enough
  cut = length-take-le enough bs h

  same_number : number (take enough bs) ≡ number bs
  unfolding number
  same_number =
      rw (
        front 0 (omega arith),
        front 1 (omega arith),
        front 2 (omega arith),
        front 3 (omega arith),
        front 4 (omega arith),
        front 5 (omega arith),
        front 6 (omega arith),
        front 7 (omega arith),
      )
      (same (mark_differs bs) (version_differs bs) (pair_refused (combustion_in bs) (metering_in bs)) (count_outside (count_in bs)) (not (eqb (length (take enough bs)) (record_length (count_in bs)))) (length_differs bs)
      (long (length (take enough bs)) (count_in bs) (omega (arith, cut))) (long (length bs) (count_in bs) h))

  cut_short : reading_of (take enough bs) ≡ reading_of bs
  cut_short = refused_long (take enough bs) (omega (arith, cut)) ∙ ap refused same_number ∙ sym (refused_long bs h)

pub first_bytes_decide : FirstBytesDecideReading
first_bytes_decide bs = ⊎_elim (λ l. ap reading_of (take_all enough bs (omega arith))) (cut_short bs) (cases_lt (length bs) enough)
