-- How far the properties are from the unrounded formula.
use Rattle.std.specs.Prelude.{Bool, cond, ℕ, ◌+◌, ◌*◌, ◌-◌, ◌^◌, ◌≤◌, ◌<◌}
use Rattle.rounding.specs.Fraction.{Fraction, Within, whole}
use Rattle.components.specs.Composition.{in_class}
use Rattle.records.specs.Format.{Contents}
use Rattle.properties.specs.Chain.{Six}
use Rattle.properties.specs.Unrounded as unrounded

-- W is within t of Hs / √d, with d as a pure number, which is its fraction divided by 10^8: (W − t)² × d ≤ Hs² ≤ (W + t)² × d, each
-- side multiplied by the denominators, which are above 0
pub record Indexed (t W : ℕ) (Hs d : Fraction) : Type 0 where
  pub proper : (0 < Hs.den) × (0 < d.den)
  pub least : t ≤ W
  pub under : (W - t) * (W - t) * d.num * (Hs.den * Hs.den) ≤ Hs.num * Hs.num * (d.den * 10 ^ 8)
  pub over : Hs.num * Hs.num * (d.den * 10 ^ 8) ≤ (W + t) * (W + t) * d.num * (Hs.den * Hs.den)

-- how far W may be, in J/m³: in the hydrogen class 40, and outside it 25
abbrev pub wobbe_distance : Bool → ℕ
wobbe_distance class = cond class 40 25

-- Z, Hs, Hi, rho and d are each within 2 of their unit, and W is within the distance of its class
pub record Distances (k : Contents) (p : Six) : Type 0 where
  pub Z : Within (whole 2) p.Z (unrounded.Z k)
  pub Hs : Within (whole 2) p.Hs (unrounded.Hs k)
  pub Hi : Within (whole 2) p.Hi (unrounded.Hi k)
  pub rho : Within (whole 2) p.rho (unrounded.rho k)
  pub d : Within (whole 2) p.d (unrounded.d k)
  pub W : Indexed (wobbe_distance (in_class k.lines k.fractions)) p.W (unrounded.Hs k) (unrounded.d k)
