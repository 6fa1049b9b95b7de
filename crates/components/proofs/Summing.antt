-- The loop that sums columns: what is summed and the sum of what is left are the whole, and everything fits.
use mathlib.Core.Path.{◌≡◌, sym, ◌∙◌}
use mathlib.Core.List.{List}
use Prim.Native.Nat.{ℕ, ◌+◌, ◌*◌, ◌^◌, ◌≤◌, ◌<◌}
use native.Mathlib.Nat.{mul-le-mul_left}
use native.Mathlib.Omega.{arith}
use lib.IntN.{ℤ, pos, nat_abs, ◌+ℤ◌, ◌*ℤ◌}
use lib.ListN.{length, get_or, drop}
use Rattle.components.specs.Table.{entry_of, molar_mass, summation, superior, inferior}
use Rattle.components.specs.Composition.{Composition, total, sum_of}
use Rattle.components.proofs.Entries.{largest, entry_below}
use Rattle.std.proofs.lemmas.Int.{unsigned_abs-mul}
use Rattle.components.proofs.SignedSums.{nat_abs_add}
use Rattle.components.proofs.SumLaws.{total_step, sum_turn, sum_end}

-- s is the sum of the entries before k
pub record Summed (c : ℕ) (ls xs : List ℕ) (s : ℤ) (k : ℕ) : Type 0 where
  pub within : k ≤ length ls
  pub whole : s +ℤ sum_of c (drop k ls) (drop k xs) ≡ sum_of c ls xs
  pub size : nat_abs s + largest * total (drop k xs) ≤ largest * total xs

module _ {c : ℕ} {ls xs : List ℕ} {s : ℤ} {k : ℕ} (i : Summed c ls xs s k) where
  small : Composition ls xs → nat_abs s < 2 ^ 62
  small g = omega (arith, i.size, g.sum)

  next_summed : Composition ls xs → k < length ls → {r : ℤ} → r ≡ s +ℤ pos (get_or xs k 0) *ℤ entry_of (get_or ls k 0) c → Summed c ls xs r (k + 1)
  next_summed g h e =
      let x = get_or xs k 0 in
      let n = entry_of (get_or ls k 0) c in
      rw e
      (record {
        within = omega arith;
        whole = sum_turn c ls xs k h (omega (arith, g.same)) s ∙ i.whole;
        size = omega (arith, nat_abs_add s (pos x *ℤ n), unsigned_abs-mul (pos x) n, mul-le-mul_left x (entry_below (get_or ls k 0) c), total_step xs k (omega (arith, g.same)), i.size);
      })

  all_summed : length ls ≤ k → s ≡ sum_of c ls xs
  all_summed h = sym (sum_end c ls xs k h s) ∙ i.whole

-- the four sums of the entries before k
pub record Four (t j : ℕ) (ls xs : List ℕ) (hs hi m : ℕ) (s : ℤ) (k : ℕ) : Type 0 where
  pub superior : Summed (superior t) ls xs (pos hs) k
  pub inferior : Summed (inferior t) ls xs (pos hi) k
  pub mass : Summed molar_mass ls xs (pos m) k
  pub summation : Summed (summation j) ls xs s k

module _ {t j : ℕ} {ls xs : List ℕ} {hs hi m : ℕ} {s : ℤ} {k : ℕ} (f : Four t j ls xs hs hi m s k) where
  pub sums_small : Composition ls xs → (hs < 2 ^ 62) × (hi < 2 ^ 62) × (m < 2 ^ 62) × (nat_abs s < 2 ^ 62)
  sums_small g = (small f.superior g, small f.inferior g, small f.mass g, small f.summation g)

  -- one more entry
  pub next_sums : Composition ls xs → k < length ls → {hs' hi' m' : ℕ} {s' : ℤ}
      → pos hs' ≡ pos hs +ℤ pos (get_or xs k 0) *ℤ entry_of (get_or ls k 0) (superior t)
      → pos hi' ≡ pos hi +ℤ pos (get_or xs k 0) *ℤ entry_of (get_or ls k 0) (inferior t)
      → pos m' ≡ pos m +ℤ pos (get_or xs k 0) *ℤ entry_of (get_or ls k 0) molar_mass
      → s' ≡ s +ℤ pos (get_or xs k 0) *ℤ entry_of (get_or ls k 0) (summation j)
      → Four t j ls xs hs' hi' m' s' (k + 1)
  next_sums g h hs_is hi_is m_is s_is =
      record {
        superior = next_summed f.superior g h hs_is;
        inferior = next_summed f.inferior g h hi_is;
        mass = next_summed f.mass g h m_is;
        summation = next_summed f.summation g h s_is;
      }

  -- after the last entry
  pub all_sums : length ls ≤ k
      → (pos hs ≡ sum_of (superior t) ls xs) × ((pos hi ≡ sum_of (inferior t) ls xs) × ((pos m ≡ sum_of molar_mass ls xs) × (s ≡ sum_of (summation j) ls xs)))
  all_sums h = (all_summed f.superior h, (all_summed f.inferior h, (all_summed f.mass h, all_summed f.summation h)))

-- one more entry fits 63 bits
pub fits_more : (sum x l c : ℕ) → sum < 2 ^ 62 → x < 2 ^ 32 → sum + x * nat_abs (entry_of l c) < 2 ^ 63
fits_more sum x l c h w = omega (arith, mul-le-mul_left x (entry_below l c))
