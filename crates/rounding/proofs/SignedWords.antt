-- Signed numbers in machine words: what fits 64 bits, and what a test of the sign tells. The crates above use these laws too.
use mathlib.Core.Path.{◌≡◌, refl, ap, ◌∙◌, subst, subst⁻¹}
use mathlib.Core.Bool.{true, false}
use Prim.Native.Nat.{ℕ, zero, suc, ◌<◌, ◌^◌}
use native.Mathlib.Omega.{arith}
use borrow.Author.Tests.{ltb-true}
use lib.Dec.{T}
use lib.IntN.{ℤ, pos, negsuc, neg_ℤ, nat_abs, ◌-ℤ◌, +ℤ_idl}
use lib.Signed.{lt_z}
use mir.Syntax.{w64}
use mir.Val.{SFits, to_z, of_z}
use Rattle.std.proofs.lemmas.Int.{fits_signed_from_abs, to_z-of_z, to_z_pos}

pub nat_abs_neg : (a : ℕ) → nat_abs (neg_ℤ (pos a)) ≡ a
nat_abs_neg zero = refl
nat_abs_neg (suc a) = refl

-- 0 - x, as the machine negates
pub minus_is : (x : ℕ) → x < 2 ^ 63 → pos 0 -ℤ to_z w64 x ≡ neg_ℤ (pos x)
minus_is x h = ap (λ (z : ℤ). pos 0 -ℤ z) (to_z_pos w64 x h) ∙ +ℤ_idl (neg_ℤ (pos x))

pub minus_fits : (x : ℕ) → x < 2 ^ 63 → SFits w64 (pos 0 -ℤ to_z w64 x)
minus_fits x h = subst⁻¹ (SFits w64) (minus_is x h) (fits_signed_from_abs w64 (neg_ℤ (pos x)) (omega (arith, nat_abs_neg x)))

-- the sign of a number, from the test of its bits
module _ (n : ℤ) (f : SFits w64 n) where
  pub is_below : lt_z (to_z w64 (of_z w64 n)) (pos 0) ≡ true → n ≡ neg_ℤ (pos (nat_abs n))
  is_below e = go n (rw (to_z-of_z w64 n f) at e)
    where
      go : (z : ℤ) → lt_z z (pos 0) ≡ true → z ≡ neg_ℤ (pos (nat_abs z))
      go (pos a) e = absurd (omega (arith, ltb-true a 0 e))
      go (negsuc a) e = refl

  pub not_below : lt_z (to_z w64 (of_z w64 n)) (pos 0) ≡ false → n ≡ pos (nat_abs n)
  not_below e = go n (rw (to_z-of_z w64 n f) at e)
    where
      go : (z : ℤ) → lt_z z (pos 0) ≡ false → z ≡ pos (nat_abs z)
      go (pos a) e = refl
      go (negsuc a) e = absurd (subst (λ b. T b) e tt)
