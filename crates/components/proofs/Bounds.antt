-- The bounds of the sums, from the share of one line, methane or hydrogen, and the largest numbers of the table.
use mathlib.Core.Path.{◌≡◌, refl, ap}
use mathlib.Core.Bool.{Bool, ◌&&◌, ◌||◌}
use mathlib.Core.Logic.{inl, inr}
use mathlib.Core.List.{List}
use Prim.Native.Nat.{ℕ, ◌+◌, ◌*◌, ◌-◌, ◌≤◌, ◌<◌}
use native.Mathlib.Nat.{mul-le-mul_left}
use native.Mathlib.Omega.{arith}
use lib.Dec.{T, leb, ltb, leb→le}
use lib.Ieee.Fits.{and_l, and_r}
use lib.IntN.{nat_abs}
use borrow.Author.Tests.{le-ltb}
use Rattle.components.specs.Table.{component_table, entry_of, molar_mass, summation, superior, inferior, Heat, Unsigned}
use Rattle.components.specs.Composition.{Composition, methane, hydrogen, least_methane, least_hydrogen, most_sum, fraction_for, sum_of}
use Rattle.components.specs.Bounds.{heat_low, heat_high, mass_low, mass_high, heat_by_mass, summation_high, Bounds, ShareBounds, InferiorBelow, HeatByMass}
use Rattle.components.proofs.Every.{at, every, unless}
use Rattle.components.proofs.Entries.{largest, heaviest, greatest_s, entry_below, mass_below, summation_below, heats_ordered, entry_by_mass}
use Rattle.components.proofs.SumLaws.{sizes, sum_is_sizes, sum_within_sizes, sizes_below, share_low, share_high}

-- the numbers of a line that bound its own part of a sum: every h lies between low and high, m is its molar mass, and no s has a size
-- above factor
record Own (line low high mass factor : ℕ) : Type 0 where
  heat : (c : ℕ) → Heat c → (low ≤ nat_abs (entry_of line c)) × (nat_abs (entry_of line c) ≤ high)
  mass_is : nat_abs (entry_of line molar_mass) ≡ mass
  factors : (k : ℕ) → k < 3 → nat_abs (entry_of line (summation k)) ≤ factor

between : ℕ → ℕ → ℕ → ℕ → Bool
between line low high c = ltb c 4 || leb low (nat_abs (entry_of line c)) && leb (nat_abs (entry_of line c)) high

small : ℕ → ℕ → ℕ → Bool
small line factor k = leb (nat_abs (entry_of line (summation k))) factor

own : (line low high mass factor : ℕ) → T (every (between line low high) 12) → nat_abs (entry_of line molar_mass) ≡ mass → T (every (small line factor) 3)
    → Own line low high mass factor
unfolding between small
own line low high mass factor h m s =
    let heats : (c : ℕ) → Heat c → T (leb low (nat_abs (entry_of line c)) && leb (nat_abs (entry_of line c)) high) =
    λ c i. unless (ltb c 4) _ (le-ltb c 4 i.0) (at (between line low high) 12 h c i.1) in
    record {
      heat = λ c i. (leb→le _ _ (and_l _ _ (heats c i)), leb→le _ _ (and_r _ _ (heats c i)));
      mass_is = m;
      factors = λ k l. leb→le _ _ (at (small line factor) 3 s k l);
    }

-- h from 802.60 to 892.97 kJ/mol, molar mass 16.043 kg/kmol, s up to 0.0490
of_methane : Own methane 802600 892970 160430 490
unfolding between small component_table
of_methane = own methane 802600 892970 160430 490 tt refl tt

-- h from 241.56 to 286.63 kJ/mol, molar mass 2.0159 kg/kmol, s down to -0.0051
of_hydrogen : Own hydrogen 241560 286630 20159 51
unfolding between small component_table
of_hydrogen = own hydrogen 241560 286630 20159 51 tt refl tt

-- where no number of the column is below 0, the size of the sum is the sum of the sizes
size_is : (c : ℕ) → Unsigned c → (ls xs : List ℕ) → nat_abs (sum_of c ls xs) ≡ sizes c ls xs
size_is c u ls xs = ap nat_abs (sum_is_sizes c u ls xs)

-- a share f of a line makes each sum at least the line's own part of it, and at most that part and what the other lines may come to
module _ {line low high mass factor : ℕ} (o : Own line low high mass factor) (f : ℕ) (ls xs : List ℕ) (g : Composition ls xs) (h : f ≤ fraction_for line ls xs) where
  least : (c a : ℕ) → Unsigned c → a ≤ nat_abs (entry_of line c) → a * f ≤ nat_abs (sum_of c ls xs)
  least c a u n = omega (arith, size_is c u ls xs, share_low c line a n ls xs, mul-le-mul_left a h)

  most : (c a b : ℕ) → a ≤ b → nat_abs (entry_of line c) ≤ a → ((l : ℕ) → nat_abs (entry_of l c) ≤ b) → nat_abs (sum_of c ls xs) + (b - a) * f ≤ b * most_sum
  most c a b l n others =
      omega (arith, sum_within_sizes c ls xs, share_high c line a b l n others ls xs, mul-le-mul_left (b - a) h, mul-le-mul_left b g.sum)

  -- where these are within the bounds
  bounds : (heat_low ≤ low * f) × (high ≤ largest) × (largest * most_sum ≤ heat_high + (largest - high) * f)
      → (mass_low ≤ mass * f) × (mass ≤ heaviest) × (heaviest * most_sum ≤ mass_high + (heaviest - mass) * f)
      → (factor ≤ greatest_s) × (greatest_s * most_sum ≤ summation_high + (greatest_s - factor) * f)
      → Bounds ls xs
  bounds heats masses factors =
      record {
        heat_low_lem = λ c i. omega (arith, heats.0, least c low (inr i) (o.heat c i).0);
        heat_high_lem = λ c i. omega (arith, heats.2, most c high largest heats.1 (o.heat c i).1 (λ l. entry_below l c));
        mass_low_lem = omega (arith, masses.0, least molar_mass mass (inl refl) (omega (arith, o.mass_is)));
        mass_high_lem = omega (arith, masses.2, most molar_mass mass heaviest masses.1 (omega (arith, o.mass_is)) mass_below);
        summation_high_lem = λ k i. omega (arith, factors.1, most (summation k) factor greatest_s factors.0 (o.factors k i) (summation_below k i));
      }

pub share_bounds : ShareBounds
share_bounds ls xs g (inl share) =
    bounds of_methane least_methane ls xs g share (omega arith, omega arith, omega arith) (omega arith, omega arith, omega arith) (omega arith, omega arith)
share_bounds ls xs g (inr share) =
    bounds of_hydrogen least_hydrogen ls xs g share (omega arith, omega arith, omega arith) (omega arith, omega arith, omega arith) (omega arith, omega arith)

pub inferior_below : InferiorBelow
inferior_below t h ls xs =
    let high = size_is (superior t) (inr (omega arith, omega arith)) ls xs in
    let low = size_is (inferior t) (inr (omega arith, omega arith)) ls xs in
    omega (arith, high, low, sizes_below 1 (inferior t) (superior t) (λ l. omega (arith, heats_ordered t h l)) ls xs)

pub heat_by_mass_lem : HeatByMass
heat_by_mass_lem c h ls xs =
    omega (arith, size_is c (inr h) ls xs, size_is molar_mass (inl refl) ls xs, sizes_below heat_by_mass c molar_mass (λ l. entry_by_mass l c h) ls xs)
