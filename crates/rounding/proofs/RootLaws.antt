-- `root` is the integer root of every number below 2^64, and no number with a square up to n is greater than the root of n.
use Prim.Native.Nat.{ℕ, zero, suc, ◌+◌, ◌*◌, ◌^◌, ◌≤◌, ◌<◌}
use native.Mathlib.Omega.{arith}
use native.Mathlib.Nat.{mul-le-mul, pow-suc}
use mathlib.Core.Logic.{⊎_elim}
use lib.Dec.{leb}
use Rattle.std.proofs.lemmas.Bool.{cases_lt, cond_both, leb-true, leb-false}
use Rattle.rounding.specs.Root.{Root, root, root_from}
use Rattle.rounding.specs.Laws.{RootIs}

-- a number whose square is at most n is below each whose square is above n
pub below_of_squares : (a b n : ℕ) → a * a ≤ n → n < b * b → a < b
below_of_squares a b n h k = ⊎_elim (λ l. l) (λ g. absurd (omega (arith, mul-le-mul g g))) (cases_lt a b)

pub root_greatest : {n r : ℕ} → Root r n → (k : ℕ) → k * k ≤ n → k ≤ r
root_greatest {n} {r} h k l = omega (arith, below_of_squares k (r + 1) n l h.next)

root_from_is : (k n c : ℕ) → c * c ≤ n → n < (c + 2 ^ k) * (c + 2 ^ k) → Root (root_from k n c) n
unfolding root_from
root_from_is zero n c h l = record { square = h; next = l }
root_from_is (suc k) n c h l =
    cond_both (leb ((c + 2 ^ k) * (c + 2 ^ k)) n) (c + 2 ^ k) c (λ (e : ℕ). Root (root_from k n e) n)
    (λ t. root_from_is k n (c + 2 ^ k) (leb-true _ _ t) (omega (arith, rw (pow-suc 2 k) at l)))
    (λ t. root_from_is k n c h (leb-false _ _ t))

pub root_is : RootIs
unfolding root
root_is n h = root_from_is 32 n 0 (omega arith) (omega arith)
