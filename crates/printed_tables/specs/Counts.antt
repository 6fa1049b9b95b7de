-- How many figures are equal, one off in the last printed digit, and neither.
use Rattle.std.specs.Prelude.{ℕ, zero, suc, ◌+◌, ◌-◌, ◌%◌, ◌^◌, Bool, List, ◌==◌, nat_lt, slice_index}
use mir.Val.{bool_byte}
use Rattle.printed_tables.specs.declared.parts.Counts.{Counts}

abbrev pub distance : ℕ → ℕ → ℕ
distance a b = (a - b) + (b - a)

abbrev pub none : Counts
none = record { equal = 0; one_off = 0; otherwise = 0 }

-- one more where a test holds (`bool_byte` is 1 for true, 0 for false); a count is kept in 32 bits
abbrev more : ℕ → Bool → ℕ
more n test = (n + bool_byte test) % 2 ^ 32

-- the counts with one figure more, as printed and as calculated
unfoldable pub counted : Counts → ℕ → ℕ → Counts
counted c printed calculated =
    let off = distance printed calculated in
    record {
      equal = more c.equal (off == 0);
      one_off = more c.one_off (off == 1);
      otherwise = more c.otherwise (nat_lt 1 off);
    }

-- with the first n of a list of printed figures more, where the k-th is calculated as f k
unfoldable pub counts_of : Counts → List ℕ → (ℕ → ℕ) → ℕ → Counts
counts_of c printed f zero = c
counts_of c printed f (suc n) = counted (counts_of c printed f n) (slice_index printed n) (f n)
