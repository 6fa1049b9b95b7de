-- The integer square root: the greatest whole number whose square is at most n.
use Rattle.std.specs.Prelude.{ℕ, zero, suc, ◌+◌, ◌*◌, ◌^◌, ◌≤◌, ◌<◌, cond, leb}

-- r is the integer root of n: r² ≤ n, and the next number's square is above n
pub record Root (r n : ℕ) : Type 0 where
  pub square : r * r ≤ n
  pub next : n < (r + 1) * (r + 1)

-- from c on, with the k lowest bits still to be tried, the greatest first: a bit stays where the square stays at most n
unfoldable pub root_from : ℕ → ℕ → ℕ → ℕ
root_from zero n c = c
root_from (suc k) n c = root_from k n (cond (leb ((c + 2 ^ k) * (c + 2 ^ k)) n) (c + 2 ^ k) c)

-- the integer root of every n below 2^64 (`root_is`): its 32 bits
unfoldable pub root : ℕ → ℕ
root n = root_from 32 n 0
