-- Each branch is what `near_z` gives on its side of 0, and everything fits 64 bits.
use mathlib.Core.Path.{◌≡◌, sym, ap, ◌∙◌}
use Prim.Native.Nat.{ℕ, ◌<◌, ◌^◌}
use native.Mathlib.Nat.{le-mul_of_pos_right}
use native.Mathlib.Omega.{arith}
use lib.IntN.{ℤ, pos, neg_ℤ, nat_abs}
use mir.Syntax.{w64}
use mir.Val.{SFits, to_z, of_z}
use Rattle.std.proofs.lemmas.Int.{fits_signed_from_abs, to_z-of_z, to_z_pos}
use Rattle.rounding.specs.Near.{near_z}
use Rattle.rounding.proofs.NearLaws.{near_z_half, near_z_pos, at_most}
use Rattle.rounding.proofs.SignedWords.{nat_abs_neg, minus_is, minus_fits, is_below, not_below}
use Rattle.rounding.proofs.nearest_signed.Goals as goal

-- the answer is no larger than n
size : (n : ℤ) (q : ℕ) → (0 < q) × (nat_abs n < 2 ^ 63) → nat_abs (near_z n q) < 2 ^ 63
size n q (h, small) = omega (arith, at_most {b = nat_abs n} (near_z_half n q h) (le-mul_of_pos_right (nat_abs n) h))

-- std gives the size of n as it is read back from its bits
size_is : {k : ℕ} (n : ℤ) → SFits w64 n → k ≡ nat_abs (to_z w64 (of_z w64 n)) → k ≡ nat_abs n
size_is n f e = e ∙ ap nat_abs (to_z-of_z w64 n f)

below : (c : goal.After-nearest_below_zero) → neg_ℤ (pos c.nearest_below_zero.result) ≡ near_z c.args.n c.args.q
below c =
    c.nearest_below_zero.ensures
    ∙ ap (λ (k : ℕ). near_z (neg_ℤ (pos k)) c.args.q) (size_is _ c.ranges.n c.unsigned_abs-size.ensures.value)
    ∙ ap (λ (z : ℤ). near_z z c.args.q) (sym (is_below c.args.n c.ranges.n c.if-n-lt0.true))

below-size : (c : goal.After-nearest_below_zero) → c.nearest_below_zero.result < 2 ^ 63
below-size c = rw (← below c, nat_abs_neg) at (size c.args.n c.args.q c.requires)

above : (c : goal.After-nearest) → pos c.nearest.result ≡ near_z c.args.n c.args.q
above c =
    ap pos c.nearest.ensures
    ∙ sym (near_z_pos _ c.args.q)
    ∙ ap (λ (k : ℕ). near_z (pos k) c.args.q) (size_is _ c.ranges.n c.unsigned_abs-size.ensures.value)
    ∙ ap (λ (z : ℤ). near_z z c.args.q) (sym (not_below c.args.n c.ranges.n c.if-n-lt0.false))

above-size : (c : goal.After-nearest) → c.nearest.result < 2 ^ 63
above-size c = rw (← above c) at (size c.args.n c.args.q c.requires)

pub overflow_cast-result : goal.overflow_cast-result
overflow_cast-result c = fits_signed_from_abs w64 _ (below-size c)

pub overflow_sub-result : goal.overflow_sub-result
overflow_sub-result c = minus_fits _ (below-size c)

pub overflow_cast-result-else-n-lt0 : goal.overflow_cast-result-else-n-lt0
overflow_cast-result-else-n-lt0 c = fits_signed_from_abs w64 _ (above-size c)

pub returns-then-n-lt0 : goal.returns-then-n-lt0
returns-then-n-lt0 c = to_z-of_z w64 _ (overflow_sub-result c) ∙ minus_is _ (below-size c) ∙ below c

pub returns-else-n-lt0 : goal.returns-else-n-lt0
returns-else-n-lt0 c = to_z_pos w64 _ (above-size c) ∙ above c
