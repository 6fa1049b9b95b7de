-- The search for the integer root of n, which document 01 leaves to the program, in rounds as W-203 of document 02 has them: each tries one
-- candidate. It is Newton's method, from above. For the root r of document 01 n is d × 10^10, where d counts 10^-8 of relative density.
use Rattle.std.specs.Prelude.{List, [], ◌∷◌, cond, ℕ, zero, suc, ◌+◌, ◌*◌, ◌-◌, ◌/◌, ◌^◌, ◌≤◌, leb, ltb, length, Option, None, Some}
use Rattle.rounding.specs.Root.{Root}

-- the candidate after c: the mean of c and n/c, rounded down
unfoldable pub next_candidate : ℕ → ℕ → ℕ
next_candidate n c = (c + n / c) / 2

-- roots for a relative density of 0.070225 (hydrogen), and of 0.6084 (natural gases)
abbrev pub hydrogen_root : ℕ
hydrogen_root = 265000000

abbrev pub natural_root : ℕ
natural_root = 780000000

-- n for a relative density of 0.2, and of 6
abbrev pub hydrogen_below : ℕ
hydrogen_below = 200000000000000000

abbrev pub natural_below : ℕ
natural_below = 6000000000000000000

-- The first candidate: below a relative density of 0.2 the one after the root for hydrogen, from there to 6 the one after that for
-- natural gases, and above the largest root of a number below 2^64.
unfoldable pub first_candidate : ℕ → ℕ
first_candidate n =
    cond (ltb n hydrogen_below)
    (next_candidate n hydrogen_root)
    (cond (ltb n natural_below) (next_candidate n natural_root) (2 ^ 32 - 1))

-- the round that tries c gives the candidate after it; it is the last, and gives none, where the square of c is at most n
unfoldable pub round_of : ℕ → ℕ → Option ℕ
round_of n c = cond (leb (c * c) n) None (Some (next_candidate n c))

-- the candidates that come after a round
abbrev pub following : (ℕ → List ℕ) → Option ℕ → List ℕ
following from None = []
following from (Some c) = from c

-- the candidates from c on, in the order in which they are tried, k at most
unfoldable pub candidates_from : ℕ → ℕ → ℕ → List ℕ
candidates_from n zero c = []
candidates_from n (suc k) c = c ∷ following (candidates_from n k) (round_of n c)

-- those of the search, 40 at most
unfoldable pub candidates : ℕ → List ℕ
candidates n = candidates_from n 40 (first_candidate n)

-- Rounds of Newton's method that try the candidates cs, of which c is the first: the root is the candidate of the last round and of no
-- earlier one, and after every other candidate the next one is tried.
pub data Rounds (n : ℕ) : ℕ → List ℕ → Type 0 where
  last : {c : ℕ} → Root c n → Rounds n c (c ∷ [])
  another : {c : ℕ} {cs : List ℕ} → (Root c n → ⊥) → Rounds n (next_candidate n c) cs → Rounds n c (c ∷ cs)

-- what is shown of the candidates cs of a search: rounds as W-203 asks for them, and how many there are at most
pub record RootInRounds (n most : ℕ) (cs : List ℕ) : Type 0 where
  pub rounds : Rounds n (first_candidate n) cs
  pub few : length cs ≤ most

-- the most rounds for any n below 2^64, where W-203 allows 40
abbrev pub most_rounds : ℕ
most_rounds = 28

-- the most for a relative density from 0.062 to 3.9
abbrev pub most_rounds_of_gases : ℕ
most_rounds_of_gases = 6
