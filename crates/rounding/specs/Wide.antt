-- A dividend that does not fit one word: whole × 10^9 + rest.
use Rattle.std.specs.Prelude.{ℕ, ◌+◌, ◌*◌, ◌^◌, ◌≤◌, ◌<◌}
use Rattle.rounding.specs.Near.{near}

abbrev pub dividend : ℕ → ℕ → ℕ
dividend whole rest = whole * 1000000000 + rest

-- what the division of such a dividend by q asks: the rest is below one unit of the whole part, and the answer fits 64 bits
pub record Wide (whole rest q : ℕ) : Type 0 where
  pub proper : 0 < q
  pub small : q ≤ 100000000000000
  pub below : rest < 1000000000
  pub fits : near (dividend whole rest) q < 2 ^ 64
