-- The term `near` of document 01: near(n/q) is the whole number nearest to n/q, halves upward.
use Rattle.std.specs.Prelude.{ℕ, ◌+◌, ◌*◌, ◌/◌, ℤ, pos, negsuc, ◌+ℤ◌, ◌*ℤ◌}

-- n/q + 1/2 rounded down, for q above 0
unfoldable pub near : ℕ → ℕ → ℕ
near n q = (2 * n + q) / (2 * q)

-- n/q rounded down on the signed scale, for q above 0
unfoldable pub floor : ℤ → ℕ → ℤ
floor (pos n) q = pos (n / q)
floor (negsuc n) q = negsuc (n / q)

-- near on the signed scale, halves upward there too: n/q + 1/2 rounded down
unfoldable pub near_z : ℤ → ℕ → ℤ
near_z n q = floor (pos 2 *ℤ n +ℤ pos q) (2 * q)
