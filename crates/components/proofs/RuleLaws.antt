-- The shape, the rule, and the signs and zeros of the table: each part is computed once over all lines, and carried to each line.
use mathlib.Core.Path.{◌≡◌, refl}
use mathlib.Core.Bool.{Bool, true, false, not, beq, ◌||◌}
use mathlib.Core.List.{List, []}
use Prim.Native.Nat.{ℕ, zero, suc, ◌-◌, ◌<◌}
use native.Mathlib.Omega.{arith}
use lib.Dec.{T, leb, ltb, eqb, leb→le, eqb→eq}
use lib.IntN.{ℤ, pos, negsuc, nat_abs}
use lib.ListN.{get_or, length}
use lib.Signed.{non_neg}
use borrow.Author.Tests.{le-ltb}
use lib.Ieee.Bits.{is_true}
use Rattle.std.specs.Cmp.{booleans_Decides}
use Rattle.components.specs.Table.{component_table, entry_of, summation}
use Rattle.components.specs.Rule.{hydrogen_atoms, allowance, excess, Shape, Rule, Columns}
use Rattle.components.proofs.Every.{at, at₂, unless}
use Rattle.components.proofs.Entries.{summation_below}

is_zero : ℤ → Bool
is_zero (pos zero) = true
is_zero (pos (suc n)) = false
is_zero (negsuc n) = false

is_zero→eq : (z : ℤ) → T (is_zero z) → z ≡ pos 0
unfolding is_zero
is_zero→eq (pos zero) t = refl
is_zero→eq (pos (suc n)) t = absurd t
is_zero→eq (negsuc n) t = absurd t

-- the tests: at every row; at every line l below 56, of which l = 0 is excepted, and at every column of its kind
twelve : List ℤ → Bool
twelve row = eqb (length row) 12

hydrogen : ℕ → ℕ → Bool
hydrogen l t = ltb l 1 || leb (nat_abs (excess l t)) (allowance l)

sign : ℕ → ℕ → Bool
sign l k = ltb l 1 || beq (non_neg (entry_of l (summation k))) (not (eqb l 41))

no_heat : ℕ → ℕ → Bool
no_heat l c = ltb l 49 || (ltb c 4 || is_zero (entry_of l c))

hydrogen_at : (l t : ℕ) → l < 56 → t < 4 → T (hydrogen l t)
unfolding hydrogen component_table hydrogen_atoms allowance
hydrogen_at l t hl ht = at₂ hydrogen 56 4 tt l t hl ht

sign_at : (l k : ℕ) → l < 56 → k < 3 → T (sign l k)
unfolding sign component_table
sign_at l k hl hk = at₂ sign 56 3 tt l k hl hk

no_heat_at : (l c : ℕ) → l < 56 → c < 12 → T (no_heat l c)
unfolding no_heat is_zero component_table
no_heat_at l c hl hc = at₂ no_heat 56 12 tt l c hl hc

-- row k has twelve numbers
row_length_lem : (k : ℕ) → k < 55 → length (get_or component_table k []) ≡ 12
unfolding twelve component_table
row_length_lem k h = eqb→eq _ 12 (at (λ (k : ℕ). twelve (get_or component_table k [])) 55 tt k h)

pub shape : Shape
unfolding component_table
shape = record { lines = refl; columns = λ l lo hi. row_length_lem (l - 1) (omega arith) }

pub rule : Rule
unfolding hydrogen
rule =
    record {
      hydrogen = λ l t lo hi h. leb→le _ _ (unless (ltb l 1) _ (le-ltb l 1 lo) (hydrogen_at l t (omega arith) h));
      small = λ l k lo hi h. omega (arith, summation_below k h l);
    }

pub columns : Columns
unfolding sign no_heat
columns =
    record {
      sign = λ l k lo hi h. (booleans_Decides _ _).0 (is_true _ (unless (ltb l 1) _ (le-ltb l 1 lo) (sign_at l k (omega arith) h)));
      no_heat = λ l c lo hi h.
          is_zero→eq _ (unless (ltb c 4) _ (le-ltb c 4 h.0) (unless (ltb l 49) _ (le-ltb l 49 lo) (no_heat_at l c (omega arith) h.1)));
    }
