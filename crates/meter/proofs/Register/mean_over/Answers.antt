-- 18, or the energy divided by the volume.
use mathlib.Core.Path.{sym, subst}
use Prim.Native.Nat.{ℕ, ◌≤◌}
use native.Mathlib.Omega.{arith}
use Rattle.properties.specs.Quantities.{calorific_bound}
use Rattle.meter.proofs.Means.{mean_bounded, mean_wide}
use Rattle.meter.proofs.Register.mean_over.Goals as goal

pub nearest_wide-requires : goal.nearest_wide-requires
nearest_wide-requires c = let s = c in mean_wide s.args.self s.args.volume s.requires.0 s.requires.1 (omega (arith, c.if-volume-eq0.false))

pub new-requires : goal.new-requires
new-requires c =
    let s = c in (
      omega arith,
      subst (λ (x : ℕ). x ≤ calorific_bound) (sym c.nearest_wide.ensures)
          (mean_bounded s.args.self s.args.volume s.requires.0 s.requires.1 (omega (arith, c.if-volume-eq0.false))),
    )
