-- Worked numbers that the definitions compute: the sums of annex D of source document 002, and line 23 at 25 °C (K10 of document 01).
use mathlib.Core.Path.{◌≡◌, refl}
use mathlib.Core.List.{List, [], ◌∷◌}
use Prim.Native.Nat.{ℕ}
use lib.IntN.{pos, negsuc, ◌*ℤ◌, ◌-ℤ◌}
use Rattle.components.specs.Table.{component_table, entry_of, molar_mass, summation, superior, inferior}
use Rattle.components.specs.Rule.{hydrogen_atoms, atoms_of, water_heat}
use Rattle.components.specs.Composition.{sum_of}

-- K1 of document 01, the gas of annex D
lines : List ℕ
lines = 1 ∷ 2 ∷ 3 ∷ 4 ∷ 5 ∷ 6 ∷ 52 ∷ 54 ∷ []

fractions : List ℕ
fractions = 924700 ∷ 35000 ∷ 9800 ∷ 2200 ∷ 3400 ∷ 600 ∷ 17500 ∷ 6800 ∷ []

-- table D.1 prints 17.478 kg/kmol, 919.09 kJ/mol at 15 °C, and 0.04785 at 15 °C
annex_d :
    (sum_of molar_mass lines fractions ≡ pos 174778457500)
    × (sum_of (superior 2) lines fractions ≡ pos 919085816000)
    × (sum_of (summation 1) lines fractions ≡ pos 478542000)
unfolding sum_of component_table lines fractions
annex_d = (refl, refl, refl)

-- a sum below 0: hydrogen alone at 0 °C
hydrogen : sum_of (summation 0) (41 ∷ []) (1000000 ∷ []) ≡ negsuc 39999999
unfolding sum_of component_table
hydrogen = refl

k10 :
    (pos 2 *ℤ (entry_of 23 (superior 0) -ℤ entry_of 23 (inferior 0)) ≡ pos 352200)
    × (pos (atoms_of 23) *ℤ water_heat 0 ≡ pos 352128)
unfolding component_table hydrogen_atoms
k10 = (refl, refl)
