-- The volume times the value, and the carry from the rest to the whole part.
use Prim.Native.Nat.{◌*◌}
use native.Mathlib.Omega.{arith}
use Rattle.meter.proofs.Registers.{carried}
use Rattle.meter.proofs.Register.booked.Goals as goal

pub returns : goal.returns
returns c =
    let a = c.args in
    carried a.unit (omega (arith, c.requires.register.0)) a.self (a.volume * a.value)
