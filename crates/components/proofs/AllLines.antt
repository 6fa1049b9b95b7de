-- Sums run over all lines: where line numbers ascend, the sum over the entries is the sum over the lines 1 to 55, an absent
-- line having fraction 0.
use mathlib.Core.Path.{◌≡◌, refl, sym, ap, ◌∙◌}
use mathlib.Core.Bool.{Bool, cond}
use mathlib.Core.List.{List, [], ◌∷◌}
use mathlib.Core.Logic.{⊎_elim}
use Prim.Native.Nat.{ℕ, zero, suc, ◌≤◌, ◌<◌}
use native.Mathlib.Nat.{eq-or-lt_of_le, le_of_suc-le-suc}
use native.Mathlib.Omega.{arith}
use borrow.Author.Tests.{eq-eqb, ne_eqb}
use lib.IntN.{ℤ, pos, ◌+ℤ◌, ◌*ℤ◌, +ℤ_assoc, +ℤ_comm, +ℤ_idl, zero-*ℤ}
use Rattle.components.specs.Table.{entry_of}
use Rattle.components.specs.Composition.{fraction_for, sum_of, over_lines, Ascending, SumsRunOverAllLines}

-- the fraction of a line is that of the first entry where it is the line's, and that of the others where it is not
found : (k l x : ℕ) (ls xs : List ℕ) → l ≡ k → fraction_for k (l ∷ ls) (x ∷ xs) ≡ x
unfolding fraction_for
found k l x ls xs e = ap (λ (b : Bool). cond b x (fraction_for k ls xs)) (eq-eqb l k e)

other : (k l x : ℕ) (ls xs : List ℕ) → (l ≡ k → ⊥) → fraction_for k (l ∷ ls) (x ∷ xs) ≡ fraction_for k ls xs
unfolding fraction_for
other k l x ls xs n = ap (λ (b : Bool). cond b x (fraction_for k ls xs)) (ne_eqb l k n)

-- no line up to `before` is among lines that ascend from there
absent : (k before : ℕ) (ls xs : List ℕ) → Ascending before ls → k ≤ before → fraction_for k ls xs ≡ 0
unfolding Ascending fraction_for
absent k before [] xs a h = refl
absent k before (l ∷ ls) [] a h = refl
absent k before (l ∷ ls) (x ∷ xs) a h =
    other k l x ls xs (λ e. omega (arith, a.0)) ∙ absent k l ls xs a.2 (omega (arith, a.0))

-- the first entry adds nothing to the lines before its own, and its product to any more
module _ (c l x : ℕ) (ls xs : List ℕ) where
  before_own : (n : ℕ) → n < l → over_lines c n (l ∷ ls) (x ∷ xs) ≡ over_lines c n ls xs
  unfolding over_lines
  before_own zero h = refl
  before_own (suc n) h = rw (other (suc n) l x ls xs (λ e. omega arith), before_own n (omega arith))

  swap : (a b r : ℤ) → a +ℤ (b +ℤ r) ≡ b +ℤ (a +ℤ r)
  swap a b r = sym (+ℤ_assoc a b r) ∙ ap (λ (z : ℤ). z +ℤ r) (+ℤ_comm a b) ∙ +ℤ_assoc b a r

  with_own : (n : ℕ) → Ascending l ls → 0 < l → l ≤ n
      → over_lines c n (l ∷ ls) (x ∷ xs) ≡ pos x *ℤ entry_of l c +ℤ over_lines c n ls xs
  unfolding over_lines
  with_own zero a p h = absurd (omega arith)
  with_own (suc n) a p h = ⊎_elim own (λ q. later q (with_own n a p (le_of_suc-le-suc q))) (eq-or-lt_of_le h)
    where
      own : l ≡ suc n → pos (fraction_for (suc n) (l ∷ ls) (x ∷ xs)) *ℤ entry_of (suc n) c +ℤ over_lines c n (l ∷ ls) (x ∷ xs)
          ≡ pos x *ℤ entry_of l c +ℤ (pos (fraction_for (suc n) ls xs) *ℤ entry_of (suc n) c +ℤ over_lines c n ls xs)
      own e = rw (found (suc n) l x ls xs e, before_own n (omega arith), absent (suc n) l ls xs a (omega arith), zero-*ℤ, +ℤ_idl, e)

      later : l < suc n → over_lines c n (l ∷ ls) (x ∷ xs) ≡ pos x *ℤ entry_of l c +ℤ over_lines c n ls xs
          → pos (fraction_for (suc n) (l ∷ ls) (x ∷ xs)) *ℤ entry_of (suc n) c +ℤ over_lines c n (l ∷ ls) (x ∷ xs)
          ≡ pos x *ℤ entry_of l c +ℤ (pos (fraction_for (suc n) ls xs) *ℤ entry_of (suc n) c +ℤ over_lines c n ls xs)
      later q rest = rw (other (suc n) l x ls xs (λ e. omega arith), rest)
          (swap (pos (fraction_for (suc n) ls xs) *ℤ entry_of (suc n) c) (pos x *ℤ entry_of l c) (over_lines c n ls xs))

-- no line has a fraction
none : (c n : ℕ) (ls xs : List ℕ) → ((k : ℕ) → fraction_for k ls xs ≡ 0) → over_lines c n ls xs ≡ pos 0
unfolding over_lines
none c zero ls xs z = refl
none c (suc n) ls xs z = rw (z (suc n), zero-*ℤ, +ℤ_idl, none c n ls xs z)

over_lines_lem : (c before : ℕ) (ls xs : List ℕ) → Ascending before ls → over_lines c 55 ls xs ≡ sum_of c ls xs
unfolding sum_of Ascending fraction_for
over_lines_lem c before [] xs a = none c 55 [] xs (λ k. refl)
over_lines_lem c before (l ∷ ls) [] a = none c 55 (l ∷ ls) [] (λ k. refl)
over_lines_lem c before (l ∷ ls) (x ∷ xs) a =
    with_own c l x ls xs 55 a.2 (omega (arith, a.0)) a.1 ∙ ap (λ (z : ℤ). pos x *ℤ entry_of l c +ℤ z) (over_lines_lem c l ls xs a.2)

pub sums_run_over_all_lines : SumsRunOverAllLines
sums_run_over_all_lines c ls xs a = over_lines_lem c 0 ls xs a
