-- The answers of the calls on a record: document 01's number, or the six properties or the two values per kilogram, for each case.
use Rattle.std.specs.Prelude.{Result}
use Rattle.records.specs.declared.refusal.Refusal.{Refusal}
use Rattle.records.specs.Order.{Outcome}
use Rattle.records.specs.Refusals.{outcome}
use Rattle.properties.specs.declared.Properties.{Properties}
use Rattle.properties.specs.declared.PerKilogram.{PerKilogram}
use Rattle.properties.specs.Chain.{Six}
use Rattle.properties.specs.PerKilogram.{MassBasis}

-- the numbers of the properties
abbrev pub numbers : Properties → Six
numbers p =
    record {
      Z = p.z.value;
      Hs = p.hs.value;
      Hi = p.hi.value;
      rho = p.rho.value;
      d = p.d.value;
      W = p.w.value;
    }

-- the properties of the numbers
abbrev pub quantities : Six → Properties
quantities p =
    record {
      z = record { value = p.Z };
      hs = record { value = p.Hs };
      hi = record { value = p.Hi };
      rho = record { value = p.rho };
      d = record { value = p.d };
      w = record { value = p.W };
    }

-- document 01's number, or the properties, of each case of an answer
abbrev pub meaning : Result Properties Refusal → Outcome Six
meaning = outcome numbers

-- the numbers of the values per kilogram
abbrev pub per_kilogram_numbers : PerKilogram → MassBasis
per_kilogram_numbers v = record { superior = v.superior.value; inferior = v.inferior.value }

-- document 01's number, or the values per kilogram, of each case of an answer
abbrev pub per_kilogram_meaning : Result PerKilogram Refusal → Outcome MassBasis
per_kilogram_meaning = outcome per_kilogram_numbers
