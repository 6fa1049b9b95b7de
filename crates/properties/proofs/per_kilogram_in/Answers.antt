-- Each value is that of the record's sums, which are within what the step asks.
use mathlib.Core.Path.{◌≡◌}
use Prim.Native.Nat.{ℕ, ◌*◌, ◌≤◌, ◌<◌}
use native.Mathlib.Omega.{arith}
use Rattle.components.specs.Bounds.{heat_low, heat_high, heat_by_mass}
use Rattle.records.specs.Format.{Contents}
use Rattle.records.specs.Accepted.{Acceptable}
use Rattle.records.proofs.Accepted.{acceptable}
use Rattle.properties.specs.Bounds.{any_heat}
use Rattle.properties.specs.Chain.{M}
use Rattle.properties.proofs.Gas.{superior_bounds, inferior_bounds, mass_pos}
use Rattle.properties.proofs.per_kilogram_in.Goals as goal

-- what the step asks of an Hm beside M
taken : (k : Contents) → Acceptable k → {hm Hm m : ℕ} → m ≡ M k → hm ≡ Hm → (heat_low ≤ Hm) × (Hm ≤ heat_high) × (Hm ≤ heat_by_mass * M k)
    → (hm ≤ any_heat) × (0 < m) × (hm ≤ heat_by_mass * m)
taken k good e is bounds = (omega (arith, bounds.1), omega (arith, mass_pos k good), omega (arith, bounds.2))

pub per_kilogram-requires : goal.per_kilogram-requires
per_kilogram-requires c =
    let good = acceptable c.args.accepted.now.bytes.now c.args.accepted.now.accepted in
    let sums = c.sums_of-sums.ensures in
    taken _ good sums.mass sums.superior (superior_bounds _ good)

pub per_kilogram-requires-2 : goal.per_kilogram-requires-2
per_kilogram-requires-2 c =
    let good = acceptable c.args.accepted.now.bytes.now c.args.accepted.now.accepted in
    let sums = c.sums_of-sums.ensures in
    taken _ good sums.mass sums.inferior (inferior_bounds _ good)
