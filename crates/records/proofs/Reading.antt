-- The reader's answer.
use mathlib.Core.Path.{◌≡◌, refl}
use Rattle.std.specs.Prelude.{List, ℕ, Ok}
use Rattle.records.specs.Order.{first_of}
use Rattle.records.specs.Format.{combustion_in, metering_in, count_in, lines_in, fractions_in, contents_in}
use Rattle.records.specs.Counted.{count_lines}
use Rattle.records.specs.Conditions.{record_order}
use Rattle.records.specs.Answers.{Reads, padded, held}
use Rattle.records.proofs.OrderLaws.{mapped_decided}

pub reads : (bs lines fractions : List ℕ) → lines ≡ padded (lines_in bs) → fractions ≡ padded (fractions_in bs) → 0 ≡ first_of (record_order bs)
    → Reads bs (Ok (record { pair = record { combustion = combustion_in bs; metering = metering_in bs }; count = count_in bs; lines = lines; fractions = fractions }))
reads bs lines fractions hl hx e = rw (mapped_decided held (first_of (record_order bs)) (contents_in bs), ← e, hl, hx, count_lines bs) refl
