-- The analysis record of document 01: its bytes, the numbers in them, and what it holds. Numbers stand least significant byte first.
use Rattle.std.specs.Prelude.{Bool, ◌&&◌, List, [], ◌∷◌, ◌++◌, ℕ, zero, suc, ◌+◌, ◌*◌, ◌/◌, ◌%◌, ◌<◌, eqb, length, get_or, take, drop}

-- the pair (combustion and metering temperature in °C), the line numbers, and the mole fractions in ppm
pub record Contents : Type 0 where
  pub combustion : ℕ
  pub metering : ℕ
  pub lines : List ℕ
  pub fractions : List ℕ

-- contents of a pair, line numbers and fractions
abbrev pub contents : ℕ → ℕ → List ℕ → List ℕ → Contents
contents c m ls xs = record { combustion = c; metering = m; lines = ls; fractions = xs }

-- bytes 0 to 2: mark GCR
abbrev pub mark : List ℕ
mark = 71 ∷ 67 ∷ 82 ∷ []

-- bytes 3 and 4: version, 1
abbrev pub version : ℕ
version = 1

-- the bytes from the mark to the entry count
abbrev pub head_length : ℕ
head_length = 8

-- where the entries begin
abbrev pub entries_at : ℕ
entries_at = head_length

-- the length of a record of n entries of 5 bytes
abbrev pub record_length : ℕ → ℕ
record_length n = entries_at + 5 * n

-- the 2-byte and the 4-byte number at an offset
abbrev pub number2 : List ℕ → ℕ → ℕ
number2 bs at = get_or bs at 0 + 256 * get_or bs (at + 1) 0

abbrev pub number4 : List ℕ → ℕ → ℕ
number4 bs at = get_or bs at 0 + 256 * get_or bs (at + 1) 0 + 65536 * get_or bs (at + 2) 0 + 16777216 * get_or bs (at + 3) 0

-- the mark stands in bytes 0 to 2; the version in bytes 3 and 4
abbrev pub has_mark : List ℕ → Bool
has_mark bs = eqb (get_or bs 0 0) (get_or mark 0 0) && eqb (get_or bs 1 0) (get_or mark 1 0) && eqb (get_or bs 2 0) (get_or mark 2 0)

abbrev pub version_in : List ℕ → ℕ
version_in bs = number2 bs 3

-- byte 5: combustion temperature; byte 6: metering temperature; byte 7: entry count n
abbrev pub combustion_in : List ℕ → ℕ
combustion_in bs = get_or bs 5 0

abbrev pub metering_in : List ℕ → ℕ
metering_in bs = get_or bs 6 0

abbrev pub count_in : List ℕ → ℕ
count_in bs = get_or bs 7 0

-- the line numbers (1 byte), and the fractions (4 bytes), of n entries
unfoldable pub lines_of : ℕ → List ℕ → List ℕ
lines_of zero es = []
lines_of (suc n) es = get_or es 0 0 ∷ lines_of n (drop 5 es)

unfoldable pub fractions_of : ℕ → List ℕ → List ℕ
fractions_of zero es = []
fractions_of (suc n) es = number4 es 1 ∷ fractions_of n (drop 5 es)

-- the entries of a record, and what stands in them
abbrev pub entries_in : List ℕ → List ℕ
entries_in bs = drop entries_at bs

abbrev pub lines_in : List ℕ → List ℕ
lines_in bs = lines_of (count_in bs) (entries_in bs)

abbrev pub fractions_in : List ℕ → List ℕ
fractions_in bs = fractions_of (count_in bs) (entries_in bs)

-- what a record holds
abbrev pub contents_in : List ℕ → Contents
contents_in bs = contents (combustion_in bs) (metering_in bs) (lines_in bs) (fractions_in bs)

-- the bytes of an entry, of the entries, and of a record
abbrev pub entry_bytes : ℕ → ℕ → List ℕ
entry_bytes l x = l ∷ x % 256 ∷ x / 256 % 256 ∷ x / 65536 % 256 ∷ x / 16777216 % 256 ∷ []

unfoldable pub entries_bytes : List ℕ → List ℕ → List ℕ
entries_bytes [] xs = []
entries_bytes (l ∷ ls) [] = []
entries_bytes (l ∷ ls) (x ∷ xs) = entry_bytes l x ++ entries_bytes ls xs

abbrev pub head_bytes : ℕ → ℕ → ℕ → List ℕ
head_bytes c m n = mark ++ (version % 256 ∷ version / 256 ∷ c ∷ m ∷ n ∷ [])

abbrev pub bytes_of : Contents → List ℕ
bytes_of k = head_bytes k.combustion k.metering (length k.lines) ++ entries_bytes k.lines k.fractions

-- a buffer in which the bytes bs stand at an offset, and every other byte is as it was
abbrev pub placed : List ℕ → ℕ → List ℕ → List ℕ
placed old at bs = take at old ++ bs ++ drop (at + length bs) old

-- every number of the list is a byte
abbrev pub Bytes : List ℕ → Type 0
Bytes bs = (i : ℕ) → get_or bs i 0 < 256
