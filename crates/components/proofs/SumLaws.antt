-- Sums over a composition: one entry more, the size, and the share of one line.
use mathlib.Core.Path.{◌≡◌, refl}
use mathlib.Core.Bool.{Bool, true, false, cond}
use mathlib.Core.List.{List, [], ◌∷◌}
use Prim.Native.Nat.{ℕ, ◌+◌, ◌-◌, ◌*◌, ◌≤◌, ◌<◌, zero-le}
use native.Mathlib.Numerals.{add-one}
use native.Mathlib.Nat.{mul-le-mul_left}
use native.Mathlib.Omega.{arith}
use lib.Dec.{T, eqb, eqb→eq}
use lib.IntN.{ℤ, pos, nat_abs, ◌+ℤ◌, ◌*ℤ◌, +ℤ_assoc, +ℤ_idr}
use lib.ListN.{length, get_or, drop, drop_of_length-le}
use lib.Seq.{drop-cons}
use lib.Signed.{pos-nat_abs}
use Rattle.components.specs.Table.{entry_of, Unsigned}
use Rattle.components.specs.Composition.{total, fraction_for, sum_of}
use Rattle.components.proofs.Entries.{not_negative}
use Rattle.std.proofs.lemmas.Int.{unsigned_abs-mul}
use Rattle.components.proofs.SignedSums.{nat_abs_add}

pub total_step : (xs : List ℕ) (k : ℕ) → k < length xs → total (drop k xs) ≡ get_or xs k 0 + total (drop (k + 1) xs)
unfolding total
total_step xs k h = rw (add-one, drop-cons xs k 0)

module _ (c : ℕ) (ls xs : List ℕ) (k : ℕ) where
  sum_step : k < length ls → k < length xs
      → sum_of c (drop k ls) (drop k xs) ≡ pos (get_or xs k 0) *ℤ entry_of (get_or ls k 0) c +ℤ sum_of c (drop (k + 1) ls) (drop (k + 1) xs)
  unfolding sum_of
  sum_step hl hx = rw (add-one, drop-cons xs k 0, drop-cons ls k 0)

  -- s and the entries from k on are s with entry k added, and the entries after it
  pub sum_turn : k < length ls → k < length xs → (s : ℤ)
      → s +ℤ pos (get_or xs k 0) *ℤ entry_of (get_or ls k 0) c +ℤ sum_of c (drop (k + 1) ls) (drop (k + 1) xs) ≡ s +ℤ sum_of c (drop k ls) (drop k xs)
  sum_turn hl hx s = rw (+ℤ_assoc, ← sum_step hl hx)

  -- nothing is left
  pub sum_end : length ls ≤ k → (s : ℤ) → s +ℤ sum_of c (drop k ls) (drop k xs) ≡ s
  unfolding sum_of
  sum_end h s = rw (drop_of_length-le ls h) (+ℤ_idr s)

-- The sum of the sizes of x × n. In a column with no number below 0 it is the sum.
unfoldable pub sizes : ℕ → List ℕ → List ℕ → ℕ
sizes c [] xs = 0
sizes c (l ∷ ls) [] = 0
sizes c (l ∷ ls) (x ∷ xs) = x * nat_abs (entry_of l c) + sizes c ls xs

pub sum_is_sizes : (c : ℕ) → Unsigned c → (ls xs : List ℕ) → sum_of c ls xs ≡ pos (sizes c ls xs)
unfolding sum_of sizes
sum_is_sizes c u [] xs = refl
sum_is_sizes c u (l ∷ ls) [] = refl
sum_is_sizes c u (l ∷ ls) (x ∷ xs) = rw (sum_is_sizes c u ls xs, ← pos-nat_abs (entry_of l c) (not_negative l c u))

pub sum_within_sizes : (c : ℕ) (ls xs : List ℕ) → nat_abs (sum_of c ls xs) ≤ sizes c ls xs
unfolding sum_of sizes
sum_within_sizes c [] xs = zero-le
sum_within_sizes c (l ∷ ls) [] = zero-le
sum_within_sizes c (l ∷ ls) (x ∷ xs) =
    omega (arith, sum_within_sizes c ls xs, nat_abs_add (pos x *ℤ entry_of l c) (sum_of c ls xs), unsigned_abs-mul (pos x) (entry_of l c))

-- a column none of whose numbers has a greater size than n times that of the same line in another column
pub sizes_below : (n c d : ℕ) → ((l : ℕ) → nat_abs (entry_of l c) ≤ n * nat_abs (entry_of l d)) → (ls xs : List ℕ) → sizes c ls xs ≤ n * sizes d ls xs
unfolding sizes
sizes_below n c d h [] xs = zero-le
sizes_below n c d h (l ∷ ls) [] = zero-le
sizes_below n c d h (l ∷ ls) (x ∷ xs) = omega (arith, sizes_below n c d h ls xs, mul-le-mul_left x (h l))

-- Line k has a share of its own: its number has at most size a, every other at most a + e.
module _ (c k a e : ℕ) (own : nat_abs (entry_of k c) ≤ a) (other : (l : ℕ) → nat_abs (entry_of l c) ≤ a + e) where
  high_step : (l x rest f sum : ℕ) (b : Bool) → (T b → l ≡ k) → rest + e * f ≤ (a + e) * sum
      → x * nat_abs (entry_of l c) + rest + e * cond b x f ≤ (a + e) * (x + sum)
  high_step l x rest f sum true is h =
      let n : nat_abs (entry_of l c) ≤ a = rw (is tt) own in omega (arith, mul-le-mul_left x n)
  high_step l x rest f sum false is h = omega (arith, mul-le-mul_left x (other l))

  high : (ls xs : List ℕ) → sizes c ls xs + e * fraction_for k ls xs ≤ (a + e) * total xs
  unfolding sizes fraction_for total
  high [] xs = omega arith
  high (l ∷ ls) [] = omega arith
  high (l ∷ ls) (x ∷ xs) = high_step l x _ _ _ (eqb l k) (λ t. eqb→eq l k t) (high ls xs)

-- the same, with b for a + e
pub share_high : (c k a b : ℕ) → a ≤ b → nat_abs (entry_of k c) ≤ a → ((l : ℕ) → nat_abs (entry_of l c) ≤ b) → (ls xs : List ℕ)
    → sizes c ls xs + (b - a) * fraction_for k ls xs ≤ b * total xs
share_high c k a b h own other ls xs =
    let e : a + (b - a) ≡ b = omega arith in
    rw e at (high c k a (b - a) own (λ l. omega (arith, other l)) ls xs)

-- A share alone: line k has a number of at least size a.
module _ (c k a : ℕ) (own : a ≤ nat_abs (entry_of k c)) where
  low_step : (l x rest f : ℕ) (b : Bool) → (T b → l ≡ k) → a * f ≤ rest → a * cond b x f ≤ x * nat_abs (entry_of l c) + rest
  low_step l x rest f true is h =
      let n : a ≤ nat_abs (entry_of l c) = rw (is tt) own in omega (arith, mul-le-mul_left x n)
  low_step l x rest f false is h = omega arith

  pub share_low : (ls xs : List ℕ) → a * fraction_for k ls xs ≤ sizes c ls xs
  unfolding sizes fraction_for
  share_low [] xs = omega arith
  share_low (l ∷ ls) [] = omega arith
  share_low (l ∷ ls) (x ∷ xs) = low_step l x _ _ (eqb l k) (λ t. eqb→eq l k t) (share_low ls xs)
