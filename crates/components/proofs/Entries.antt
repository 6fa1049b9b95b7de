-- Bounds over all numbers of the table, and the 0 that stands for one outside of it, each computed once.
use mathlib.Core.List.{List, []}
use mathlib.Core.Logic.{⊎_elim}
use mathlib.Core.Bool.{Bool, ◌||◌}
use Prim.Native.Nat.{ℕ, ◌-◌, ◌*◌, ◌≤◌, ◌<◌}
use native.Mathlib.Omega.{arith}
use lib.Dec.{T, leb, ltb, leb→le}
use lib.IntN.{ℤ, pos, nat_abs}
use lib.ListN.{get_or}
use lib.Signed.{non_neg}
use borrow.Author.Tests.{le-ltb}
use mir.Syntax.{w32}
use mir.Val.{SFits}
use Rattle.std.proofs.lemmas.Int.{fits_signed_from_abs}
use Rattle.components.specs.Table.{component_table, entry_of, molar_mass, summation, superior, inferior, Heat, Unsigned}
use Rattle.components.specs.Bounds.{heat_by_mass}
use Rattle.components.specs.Tests.{all}
use Rattle.components.proofs.Every.{at, every, all_at, unless}

-- a test of a row passes at every row
row_at : (f : List ℤ → Bool) → T (all f component_table) → T (f []) → (l : ℕ) → T (f (get_or component_table (l - 1) []))
row_at f t e l = all_at f component_table [] t e (l - 1)

-- the largest number, n-decane's superior h at 0 °C; the largest molar mass, n-decane's; the bound of document 01's s
abbrev pub largest : ℕ
largest = 6842690

abbrev pub heaviest : ℕ
heaviest = 1422850

abbrev pub greatest_s : ℕ
greatest_s = 9999

low : ℤ → Bool
low z = leb (nat_abs z) largest

pub entry_below : (l c : ℕ) → nat_abs (entry_of l c) ≤ largest
unfolding low component_table
entry_below l c = leb→le _ _ (all_at low (get_or component_table (l - 1) []) (pos 0) (row_at (all low) tt tt l) tt c)

light : List ℤ → Bool
light row = leb (nat_abs (get_or row molar_mass (pos 0))) heaviest

pub mass_below : (l : ℕ) → nat_abs (entry_of l molar_mass) ≤ heaviest
unfolding light component_table
mass_below l = leb→le _ _ (row_at light tt tt l)

summable : List ℤ → ℕ → Bool
summable row k = leb (nat_abs (get_or row (summation k) (pos 0))) greatest_s

pub summation_below : (k : ℕ) → k < 3 → (l : ℕ) → nat_abs (entry_of l (summation k)) ≤ greatest_s
unfolding summable component_table
summation_below k h l =
    leb→le _ _ (at (summable (get_or component_table (l - 1) [])) 3 (row_at (λ (row : List ℤ). every (summable row) 3) tt tt l) k h)

-- no inferior h is above the superior h of its line at the same temperature
ordered : List ℤ → ℕ → Bool
ordered row t = leb (nat_abs (get_or row (inferior t) (pos 0))) (nat_abs (get_or row (superior t) (pos 0)))

pub heats_ordered : (t : ℕ) → t < 4 → (l : ℕ) → nat_abs (entry_of l (inferior t)) ≤ nat_abs (entry_of l (superior t))
unfolding ordered component_table
heats_ordered t h l =
    leb→le _ _ (at (ordered (get_or component_table (l - 1) [])) 4 (row_at (λ (row : List ℤ). every (ordered row) 4) tt tt l) t h)

-- no h is above 15 times the m of its line
by_mass : List ℤ → ℕ → Bool
by_mass row c = ltb c 4 || leb (nat_abs (get_or row c (pos 0))) (heat_by_mass * nat_abs (get_or row molar_mass (pos 0)))

pub entry_by_mass : (l c : ℕ) → Heat c → nat_abs (entry_of l c) ≤ heat_by_mass * nat_abs (entry_of l molar_mass)
unfolding by_mass component_table
entry_by_mass l c (lo, hi) =
    leb→le _ _
    (unless (ltb c 4) _ (le-ltb c 4 lo)
    (at (by_mass (get_or component_table (l - 1) [])) 12 (row_at (λ (row : List ℤ). every (by_mass row) 12) tt tt l) c hi))

pub entry_fits : (l c : ℕ) → SFits w32 (entry_of l c)
entry_fits l c = fits_signed_from_abs w32 _ (omega (arith, entry_below l c))

-- no molar mass and no h is below 0
mass_unsigned : List ℤ → Bool
mass_unsigned row = non_neg (get_or row molar_mass (pos 0))

heat_unsigned : List ℤ → ℕ → Bool
heat_unsigned row c = ltb c 4 || non_neg (get_or row c (pos 0))

mass_at : (l : ℕ) → T (non_neg (entry_of l molar_mass))
unfolding mass_unsigned component_table
mass_at l = row_at mass_unsigned tt tt l

heat_at : (l c : ℕ) → Heat c → T (non_neg (entry_of l c))
unfolding heat_unsigned component_table
heat_at l c (lo, hi) =
    unless (ltb c 4) (non_neg (entry_of l c)) (le-ltb c 4 lo)
    (at (heat_unsigned (get_or component_table (l - 1) [])) 12 (row_at (λ (row : List ℤ). every (heat_unsigned row) 12) tt tt l) c hi)

pub not_negative : (l c : ℕ) → Unsigned c → T (non_neg (entry_of l c))
not_negative l c u = ⊎_elim (λ e. rw e (mass_at l)) (λ h. heat_at l c h) u
