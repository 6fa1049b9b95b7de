-- Each temperature has a place among its columns.
use Prim.Native.Nat.{◌<◌}
use native.Mathlib.Omega.{arith}
use Rattle.components.specs.declared.temperatures.Combustion.{Combustion}
use Rattle.components.specs.declared.temperatures.Combustion.TheVariants as combustion
use Rattle.components.specs.Table.{superior, inferior, Heat}
use Rattle.components.specs.Temperatures.{heat_place}

pub heat_place_below : (t : Combustion) → heat_place t < 4
heat_place_below combustion.At25 = omega arith
heat_place_below combustion.At20 = omega arith
heat_place_below combustion.At15 = omega arith
heat_place_below combustion.At0 = omega arith

pub superior_is_heat : (t : Combustion) → Heat (superior (heat_place t))
superior_is_heat t = (omega arith, omega (arith, heat_place_below t))

pub inferior_is_heat : (t : Combustion) → Heat (inferior (heat_place t))
inferior_is_heat t = (omega arith, omega (arith, heat_place_below t))
