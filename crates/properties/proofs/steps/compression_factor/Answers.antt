-- The tenth has a square below 10^18.
use mathlib.Core.Path.{◌≡◌, ap, ◌∙◌}
use Prim.Native.Nat.{ℕ, ◌*◌, ◌≤◌, ◌^◌, ◌<◌}
use native.Mathlib.Nat.{mul-le-mul}
use native.Mathlib.Omega.{arith}
use lib.IntN.{ℤ, nat_abs}
use lib.Signed.{mag}
use mir.Syntax.{w64}
use mir.Val.{SFits, to_z, of_z}
use mir.Facts.{to_z-of_z}
use Rattle.components.specs.Bounds.{summation_high}
use Rattle.properties.specs.Chain.{tenth}
use Rattle.properties.proofs.StepBounds.{tenth_high, compression_high}
use Rattle.properties.proofs.steps.compression_factor.Goals as goal

-- the tenth of s as the code has it
module _ (s s9 : ℤ) (fits : SFits w64 s) (small : nat_abs s ≤ summation_high) (range : mag s9 < 2 ^ 63) (e : s9 ≡ tenth (to_z w64 (of_z w64 s))) where
  value : to_z w64 (of_z w64 s9) ≡ tenth s
  value = to_z-of_z {w = w64} (record { sfits = range }) ∙ e ∙ ap tenth (to_z-of_z fits)

  root_fits : nat_abs (to_z w64 (of_z w64 s9)) < 2 ^ 31
  root_fits = rw value (omega (arith, tenth_high s small))

  square_fits : (r : ℕ) → r ≡ nat_abs (to_z w64 (of_z w64 s9)) * nat_abs (to_z w64 (of_z w64 s9)) → r ≤ 10 ^ 18
  square_fits r is =
      let f : r ≡ nat_abs (tenth s) * nat_abs (tenth s) = is ∙ ap (λ (z : ℤ). nat_abs z * nat_abs z) value in
      omega (arith, f, tenth_high s small, mul-le-mul (tenth_high s small) (tenth_high s small))

pub square-requires : goal.square-requires
square-requires c = root_fits c.args.s _ c.ranges.s c.requires c.nearest_signed-s9.type_inv c.nearest_signed-s9.ensures

pub overflow_sub-square : goal.overflow_sub-square
overflow_sub-square c = square_fits c.args.s _ c.ranges.s c.requires c.nearest_signed-s9.type_inv c.nearest_signed-s9.ensures _ c.square.ensures

pub new-requires : goal.new-requires
new-requires c = omega (arith, c.nearest.ensures, compression_high c.square.result)
