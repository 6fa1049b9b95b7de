-- A number that is at most the ceiling times Z gives a quotient that is at most the ceiling.
use Prim.Native.Nat.{◌*◌, ◌^◌}
use native.Mathlib.Omega.{arith}
use Rattle.rounding.proofs.NearLaws.{near_half, at_most}
use Rattle.properties.proofs.quantities.Quantity.real.Goals as goal

pub new-requires : goal.new-requires
new-requires g c =
    (omega arith, rw (c.nearest.ensures, c.value.ensures) (at_most {b = g.row.BOUND} (near_half (c.args.ideal * 10 ^ 9) c.args.z.value c.requires.0) c.requires.1))
