-- The first bytes of an input decide what is answered where it is no day file.
use mathlib.Core.Path.{◌≡◌, refl, ap}
use mathlib.Core.Logic.{⊎_elim}
use Prim.Native.Nat.{◌≤◌, ◌<◌}
use native.Mathlib.Omega.{arith}
use lib.ListN.{length, take}
use Rattle.std.proofs.lemmas.List.{take_all, get_or-take, length-take-le}
use Rattle.std.proofs.lemmas.Bool.{le-ltb, cases_lt}
use Rattle.day_file.specs.Format.{first_block, no_day_file}
use Rattle.gasday.specs.Metered.{FirstBytesTell, FirstBytesDecide}

pub first_bytes_tell : FirstBytesTell
first_bytes_tell bs = ⊎_elim short long (cases_lt (length bs) first_block)
  where
    short : length bs < first_block → no_day_file (take first_block bs) ≡ no_day_file bs
    short l = ap no_day_file (take_all first_block bs (omega arith))

    long : first_block ≤ length bs → no_day_file (take first_block bs) ≡ no_day_file bs
    long l =
        let n : length (take first_block bs) ≡ first_block = length-take-le first_block bs l in
        rw (
          n,
          le-ltb (length bs) first_block l,
          get_or-take first_block bs 0 0 (omega arith),
          get_or-take first_block bs 1 0 (omega arith),
          get_or-take first_block bs 2 0 (omega arith),
          get_or-take first_block bs 3 0 (omega arith),
          get_or-take first_block bs 4 0 (omega arith),
        ) refl

pub first_bytes_decide : FirstBytesDecide
first_bytes_decide bs volumes e = rw (first_bytes_tell bs, e) refl
