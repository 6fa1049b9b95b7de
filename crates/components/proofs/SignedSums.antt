-- Sizes of signed sums.
use Prim.Native.Nat.{ℕ, suc, ◌+◌, ◌-◌, ◌≤◌}
use native.Mathlib.Nat.{le_refl}
use native.Mathlib.Omega.{arith}
use Rattle.std.proofs.lemmas.Bool.{cond_both, ltb-true, ltb-false}
use lib.Dec.{ltb}
use lib.IntN.{ℤ, pos, negsuc, nat_abs, sub_ℕ, ◌+ℤ◌}

nat_abs_sub : (a b : ℕ) → nat_abs (sub_ℕ a b) ≤ a + b
nat_abs_sub a b =
    cond_both (ltb a b) (negsuc (b - suc a)) (pos (a - b)) (λ (z : ℤ). nat_abs z ≤ a + b) (λ e. omega (arith, ltb-true a b e)) (λ e. omega (arith, ltb-false a b e))

pub nat_abs_add : (a b : ℤ) → nat_abs (a +ℤ b) ≤ nat_abs a + nat_abs b
nat_abs_add (pos a) (pos b) = le_refl _
nat_abs_add (pos a) (negsuc b) = nat_abs_sub a (suc b)
nat_abs_add (negsuc a) (pos b) = omega (arith, nat_abs_sub b (suc a))
nat_abs_add (negsuc a) (negsuc b) = omega arith
