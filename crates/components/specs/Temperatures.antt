-- The places of the temperatures among the columns of the component table, each counted from 0.
use Rattle.std.specs.Prelude.{ℕ}
use Rattle.components.specs.declared.temperatures.Combustion.{Combustion}
use Rattle.components.specs.declared.temperatures.Combustion.TheVariants as combustion
use Rattle.components.specs.declared.temperatures.Metering.{Metering}
use Rattle.components.specs.declared.temperatures.Metering.TheVariants as metering

-- of h, at 25, 20, 15 and 0 °C
abbrev pub heat_place : Combustion → ℕ
heat_place combustion.At25 = 0
heat_place combustion.At20 = 1
heat_place combustion.At15 = 2
heat_place combustion.At0 = 3

-- of s, at 0, 15 and 20 °C
abbrev pub summation_place : Metering → ℕ
summation_place metering.At0 = 0
summation_place metering.At15 = 1
summation_place metering.At20 = 2
