-- Numbers below 0: what `near_z` gives of one.
use mathlib.Core.Path.{◌≡◌, refl, sym, ap, ◌∙◌}
use mathlib.Core.Bool.{Bool, cond}
use Prim.Native.Nat.{ℕ, zero, suc, ◌+◌, ◌*◌, ◌-◌, ◌≤◌, ◌<◌, zero-le}
use native.Mathlib.Nat.{div-eq_of_lt, div-eq_of_lt-le}
use native.Mathlib.Omega.{arith}
use lib.IntN.{ℤ, pos, negsuc, neg_ℤ, sub_ℕ, ◌+ℤ◌, ◌*ℤ◌}
use borrow.Author.Tests.{lt-ltb, le-ltb}
use Rattle.rounding.specs.Near.{near_z, floor}

sub_ge : {a b : ℕ} → b ≤ a → sub_ℕ a b ≡ pos (a - b)
sub_ge {a} {b} h = ap (λ (t : Bool). cond t (negsuc (b - suc a)) (pos (a - b))) (le-ltb a b h)

sub_lt : {a b : ℕ} → a < b → sub_ℕ a b ≡ negsuc (b - suc a)
sub_lt {a} {b} h = ap (λ (t : Bool). cond t (negsuc (b - suc a)) (pos (a - b))) (lt-ltb a b h)

minus : (m q : ℕ) → neg_ℤ (pos m) +ℤ pos q ≡ sub_ℕ q m
minus zero q = ap pos (omega arith) ∙ sym (sub_ge {a = q} zero-le)
minus (suc m) q = refl

-- q - 2 n, which `near_z` divides
twice : (n q : ℕ) → pos 2 *ℤ neg_ℤ (pos n) +ℤ pos q ≡ sub_ℕ q (2 * n)
twice zero q = minus 0 q
twice (suc n) q = minus (2 * suc n) q

-- (q - m) / 2q rounded down
floor_is : (m q r : ℕ) → 0 < q → 2 * (r * q) < m + q → m + q ≤ 2 * (r * q) + 2 * q → floor (sub_ℕ q m) (2 * q) ≡ neg_ℤ (pos r)
unfolding floor
floor_is m q zero h lo hi =
    ap (λ (z : ℤ). floor z (2 * q)) (sub_ge {a = q} {b = m} (omega arith))
    ∙ ap pos (div-eq_of_lt {n = q - m} {m = 2 * q} (omega arith))
floor_is m q (suc j) h lo hi =
    ap (λ (z : ℤ). floor z (2 * q)) (sub_lt {a = q} {b = m} (omega arith))
    ∙ ap negsuc (div-eq_of_lt-le (2 * q) (omega arith) (omega arith))

-- of -n/q it gives -r, where r - 1/2 < n/q ≤ r + 1/2
pub near_z_is : (n q r : ℕ) → 0 < q → 2 * (r * q) < 2 * n + q → 2 * n + q ≤ 2 * (r * q) + 2 * q → near_z (neg_ℤ (pos n)) q ≡ neg_ℤ (pos r)
unfolding near_z
near_z_is n q r h lo hi = ap (λ (z : ℤ). floor z (2 * q)) (twice n q) ∙ floor_is (2 * n) q r h lo hi
