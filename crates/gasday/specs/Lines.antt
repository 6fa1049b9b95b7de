-- A text with one volume a line, and what is shown of its reading.
use Rattle.std.specs.Prelude.{◌≡◌, true, List, [], ◌∷◌, ◌++◌, ℕ, ◌-◌, ◌<◌, ◌^◌, Option, None, Some}
use Rattle.gasday.specs.Text.{line_feed, carriage_return, zero_digit, is_digit, with_digit, Reading, with_bytes, given, volumes_of}

-- The volumes of a text, one a line, at the beginning of a line or behind digits of it, which make a number: the text ends there, also where
-- no line feed stands behind the last number; a digit begins a number or goes on with it, which has 64 bits; a line feed ends the line, and
-- a carriage return may stand before it
pub data Lines : Option ℕ → List ℕ → List ℕ → Type 0 where
  no_more : Lines None [] []
  last : (n : ℕ) → Lines (Some n) [] (n ∷ [])
  first_digit : (b : ℕ) (bs vs : List ℕ) → is_digit b ≡ true → Lines (Some (b - zero_digit)) bs vs → Lines None (b ∷ bs) vs
  digit : (n b : ℕ) (bs vs : List ℕ) → is_digit b ≡ true → with_digit n b < 2 ^ 64 → Lines (Some (with_digit n b)) bs vs → Lines (Some n) (b ∷ bs) vs
  feed : (n : ℕ) (bs vs : List ℕ) → Lines None bs vs → Lines (Some n) (line_feed ∷ bs) (n ∷ vs)
  return_feed : (n : ℕ) (bs vs : List ℕ) → Lines None bs vs → Lines (Some n) (carriage_return ∷ line_feed ∷ bs) (n ∷ vs)

-- such a text gives its volumes
abbrev pub LinesGiveVolumes : Type 0
LinesGiveVolumes = (text volumes : List ℕ) → Lines None text volumes → volumes_of text ≡ given volumes

-- and no other text gives volumes
abbrev pub VolumesAreOfLines : Type 0
VolumesAreOfLines = (text volumes : List ℕ) → volumes_of text ≡ given volumes → Lines None text volumes

-- it makes no difference in which parts a text is read
abbrev pub PartsMakeNoDifference : Type 0
PartsMakeNoDifference = (r : Reading) (bs cs : List ℕ) → with_bytes r (bs ++ cs) ≡ with_bytes (with_bytes r bs) cs
