-- What document 01 says of the whole component table: its shape, its rule, and its signs and zeros.
use Rattle.std.specs.Prelude.{◌≡◌, not, cond, ◌||◌, List, [], ◌∷◌, ℕ, ◌-◌, ◌≤◌, ◌<◌, eqb, ℤ, pos, nat_abs, ◌*ℤ◌, ◌-ℤ◌, get_or, length}
use Rattle.std.specs.Int.Signed.{non_neg}
use Rattle.components.specs.Table.{component_table, entry_of, summation, superior, inferior, Heat}

-- 55 lines of twelve columns
pub record Shape : Type 0 where
  pub lines : length component_table ≡ 55
  pub columns : (l : ℕ) → 1 ≤ l → l ≤ 55 → length (get_or component_table (l - 1) []) ≡ 12

-- the hydrogen atoms of a molecule of each line, ten lines a row
unfoldable pub hydrogen_atoms : List ℕ
hydrogen_atoms =
    4 ∷ 6 ∷ 8 ∷ 10 ∷ 10 ∷ 12 ∷ 12 ∷ 12 ∷ 14 ∷ 14 ∷
    14 ∷ 14 ∷ 14 ∷ 16 ∷ 18 ∷ 20 ∷ 22 ∷ 4 ∷ 6 ∷ 8 ∷
    8 ∷ 8 ∷ 8 ∷ 10 ∷ 4 ∷ 6 ∷ 6 ∷ 2 ∷ 10 ∷ 12 ∷
    14 ∷ 12 ∷ 14 ∷ 16 ∷ 6 ∷ 8 ∷ 10 ∷ 10 ∷ 4 ∷ 4 ∷
    2 ∷ 2 ∷ 2 ∷ 3 ∷ 1 ∷ 0 ∷ 0 ∷ 0 ∷ 0 ∷ 0 ∷
    0 ∷ 0 ∷ 0 ∷ 0 ∷ 0 ∷ []

-- a of document 01
abbrev pub atoms_of : ℕ → ℕ
atoms_of l = get_or hydrogen_atoms (l - 1) 0

-- w of document 01: the superior h of water, line 42, at the t-th temperature
abbrev pub water_heat : ℕ → ℤ
water_heat t = entry_of 42 (superior t)

-- 20, or 200 for the lines that are printed with one decimal
unfoldable pub allowance : ℕ → ℕ
allowance l = cond (eqb l 21 || eqb l 22 || eqb l 23 || eqb l 45) 200 20

-- 2 × (superior − inferior) − a × w, all at the t-th temperature
abbrev pub excess : ℕ → ℕ → ℤ
excess l t = pos 2 *ℤ (entry_of l (superior t) -ℤ entry_of l (inferior t)) -ℤ pos (atoms_of l) *ℤ water_heat t

-- the rule over the whole table: it holds of every line l from 1 to 55
pub record Rule : Type 0 where
  -- 2 × (superior − inferior) differs from a × w at the same temperature by at most the allowance
  pub hydrogen : (l t : ℕ) → 1 ≤ l → l ≤ 55 → t < 4 → nat_abs (excess l t) ≤ allowance l
  -- every s lies strictly between −10,000 and 10,000
  pub small : (l k : ℕ) → 1 ≤ l → l ≤ 55 → k < 3 → nat_abs (entry_of l (summation k)) < 10000

-- what document 01 says of single columns, and that hydrogen's s are the only negative ones
pub record Columns : Type 0 where
  -- s of hydrogen, line 41, is negative at all three temperatures; of the other lines it is not
  pub sign : (l k : ℕ) → 1 ≤ l → l ≤ 55 → k < 3 → non_neg (entry_of l (summation k)) ≡ not (eqb l 41)
  -- h is 0 for lines 49 to 55
  pub no_heat : (l c : ℕ) → 49 ≤ l → l ≤ 55 → Heat c → entry_of l c ≡ pos 0
