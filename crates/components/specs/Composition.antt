-- A composition: a list of line numbers and a list of mole fractions in ppm, and its sums over the component table.
use Rattle.std.specs.Prelude.{◌≡◌, Bool, cond, List, [], ◌∷◌, ℕ, zero, suc, ◌+◌, ◌≤◌, ◌<◌, ◌⊎◌, eqb, leb, ℤ, pos, ◌+ℤ◌, ◌*ℤ◌, get_or, length}
use Rattle.components.specs.Table.{entry_of}

-- the sum of the fractions
unfoldable pub total : List ℕ → ℕ
total [] = 0
total (x ∷ xs) = x + total xs

-- the fraction of a line, 0 where it is absent
unfoldable pub fraction_for : ℕ → List ℕ → List ℕ → ℕ
fraction_for k [] xs = 0
fraction_for k (l ∷ ls) [] = 0
fraction_for k (l ∷ ls) (x ∷ xs) = cond (eqb l k) x (fraction_for k ls xs)

-- the sum of x × column: each fraction times the number of its line, a whole number with a sign
unfoldable pub sum_of : ℕ → List ℕ → List ℕ → ℤ
sum_of c [] xs = pos 0
sum_of c (l ∷ ls) [] = pos 0
sum_of c (l ∷ ls) (x ∷ xs) = pos x *ℤ entry_of l c +ℤ sum_of c ls xs

-- the same over the lines 1 to n, an absent line having fraction 0
unfoldable pub over_lines : ℕ → ℕ → List ℕ → List ℕ → ℤ
over_lines c zero ls xs = pos 0
over_lines c (suc n) ls xs = pos (fraction_for (suc n) ls xs) *ℤ entry_of (suc n) c +ℤ over_lines c n ls xs

-- each line number is above the one before (0 before the first), and at most 55
unfoldable pub Ascending : ℕ → List ℕ → Type 0
Ascending before [] = Unit
Ascending before (l ∷ ls) = (before < l) × (l ≤ 55) × Ascending l ls

-- sums run over all lines: where the line numbers ascend, the sum over the entries is the sum over the lines 1 to 55
abbrev pub SumsRunOverAllLines : Type 0
SumsRunOverAllLines = (c : ℕ) (ls xs : List ℕ) → Ascending 0 ls → over_lines c 55 ls xs ≡ sum_of c ls xs

-- the line numbers of methane and of hydrogen
abbrev pub methane : ℕ
methane = 1

abbrev pub hydrogen : ℕ
hydrogen = 41

-- the most that the fractions come to, the least fraction of methane (a house limit, a term of document 01), and the least one of hydrogen
-- in the hydrogen class, in ppm
abbrev pub most_sum : ℕ
most_sum = 1000100

abbrev pub least_methane : ℕ
least_methane = 500000

abbrev pub least_hydrogen : ℕ
least_hydrogen = 900000

-- the hydrogen class of document 02 (W-207): hydrogen at 900,000 or more. Every other composition is outside it. First from the fraction
-- of hydrogen, then of a composition.
abbrev pub hydrogen_class : ℕ → Bool
hydrogen_class x = leb least_hydrogen x

abbrev pub in_class : List ℕ → List ℕ → Bool
in_class ls xs = hydrogen_class (fraction_for hydrogen ls xs)

-- as many fractions as line numbers, each line one of the table, and the fractions no more than they may come to
pub record Composition (ls xs : List ℕ) : Type 0 where
  pub same : length ls ≡ length xs
  pub lines : (k : ℕ) → k < length ls → (1 ≤ get_or ls k 0) × (get_or ls k 0 ≤ 55)
  pub sum : total xs ≤ most_sum

-- a large share of one line: methane not below its house limit, or hydrogen not below that of its class
abbrev pub LargeShare : List ℕ → List ℕ → Type 0
LargeShare ls xs = (least_methane ≤ fraction_for methane ls xs) ⊎ (least_hydrogen ≤ fraction_for hydrogen ls xs)
