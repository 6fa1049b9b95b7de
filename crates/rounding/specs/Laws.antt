-- What is shown of the definitions of this crate, as statements. `NearHalf` is proved as `near_half` in proofs/, and so each.
use Rattle.std.specs.Prelude.{◌≡◌, ℕ, ◌+◌, ◌*◌, ◌^◌, ◌≤◌, ◌<◌, length, ℤ, pos, negsuc, neg_ℤ, nat_abs}
use Rattle.rounding.specs.Near.{near, near_z}
use Rattle.rounding.specs.Fraction.{Fraction, Within, ◌over◌, half, whole, plus, times}
use Rattle.rounding.specs.Root.{Root, root}
use Rattle.rounding.specs.declared.Rooted.{Rooted}
use Rattle.rounding.specs.Search.{candidates, RootInRounds, most_rounds, most_rounds_of_gases}
use Rattle.rounding.specs.Answers.{Searched, tried_in}

-- near differs from n/q by at most a half
abbrev pub NearHalf : Type 0
NearHalf = (n q : ℕ) → 0 < q → Within half (near n q) (n over q)

-- near is monotone
abbrev pub NearMonotone : Type 0
NearMonotone = (n m q : ℕ) → 0 < q → n ≤ m → near n q ≤ near m q

-- near is exact on multiples of q
abbrev pub NearExact : Type 0
NearExact = (k q : ℕ) → 0 < q → near (k * q) q ≡ k

-- on the signed scale near is the same number where n is not below 0
abbrev pub NearZPos : Type 0
NearZPos = (n q : ℕ) → near_z (pos n) q ≡ pos (near n q)

-- and not above 0 where n is below 0
abbrev pub NearZNeg : Type 0
NearZNeg = (n q : ℕ) → 0 < q → near_z (negsuc n) q ≡ neg_ℤ (pos (nat_abs (near_z (negsuc n) q)))

-- its size differs from that of n/q by at most a half
abbrev pub NearZHalf : Type 0
NearZHalf = (z : ℤ) (q : ℕ) → 0 < q → Within half (nat_abs (near_z z q)) (nat_abs z over q)

-- distances of a sum add up
abbrev pub WithinPlus : Type 0
WithinPlus = (t u v w : ℕ) (x y : Fraction) → Within (whole t) v x → Within (whole u) w y → Within (whole (t + u)) (v + w) (plus x y)

-- a distance is multiplied with what it measures
abbrev pub WithinTimes : Type 0
WithinTimes = (k t v : ℕ) (x : Fraction) → Within (whole t) v x → Within (whole (k * t)) (k * v) (times k x)

-- a distance may be taken larger
abbrev pub WithinWider : Type 0
WithinWider = (t u : Fraction) (v : ℕ) (x : Fraction) → 0 < u.den → t.num * u.den ≤ u.num * t.den → Within t v x → Within u v x

-- root gives the integer root of every number below 2^64
abbrev pub RootIs : Type 0
RootIs = (n : ℕ) → n < 2 ^ 64 → Root (root n) n

-- the search for the root of every number below 2^64 keeps W-203 of document 02
abbrev pub EverySearch : Type 0
EverySearch = (n : ℕ) → n < 2 ^ 64 → RootInRounds n most_rounds (candidates n)

-- with fewer rounds for a relative density from 0.062 to 3.9
abbrev pub SearchesOfGases : Type 0
SearchesOfGases = (n : ℕ) → 62 * 10 ^ 15 ≤ n → n ≤ 39 * 10 ^ 17 → RootInRounds n most_rounds_of_gases (candidates n)

-- whatever `root_search` answers by its contract, its rounds are the candidates in it, and these are those of the search
abbrev pub SearchAnswers : Type 0
SearchAnswers = (n : ℕ) (found : Rooted) → Searched n found → (found.rounds ≡ length (tried_in found)) × (tried_in found ≡ candidates n)

-- no smaller bounds are true: of 0, and of a relative density of 2.70343854
abbrev pub NoFewerRounds : Type 0
NoFewerRounds = (length (candidates 0) ≡ most_rounds) × (length (candidates 2703438540000000000) ≡ most_rounds_of_gases)
