-- The numbers of the two orders.
use mathlib.Core.Path.{refl}
use Rattle.records.specs.Conditions.{RecordNumbers, WriterNumbers}

pub record_numbers_lem : RecordNumbers
record_numbers_lem bs = refl

pub writer_numbers : WriterNumbers
writer_numbers k room = refl
