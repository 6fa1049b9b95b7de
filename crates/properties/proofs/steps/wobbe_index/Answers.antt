-- The index is at most the ceiling.
use native.Mathlib.Omega.{arith}
use Rattle.properties.proofs.StepBounds.{wobbe_high}
use Rattle.properties.proofs.steps.wobbe_index.Goals as goal

pub new-requires : goal.new-requires
new-requires c =
    let k = c.requires.known in
    (omega arith, rw (c.index.ensures, c.value.ensures, c.value-2.ensures) (wobbe_high c.args.d.value k.1 k.2 c.args.hs.value c.requires.by_density))
