-- The rounds of the search: the last candidate is the root, and how many there are.
use mathlib.Core.Path.{◌≡◌, refl, sym, ◌∙◌}
use mathlib.Core.List.{[], ◌∷◌}
use Prim.Native.Nat.{ℕ, zero, suc, ◌+◌, ◌*◌, ◌^◌, ◌≤◌, ◌<◌}
use native.Mathlib.Omega.{arith}
use mathlib.Core.Logic.{◌⊎◌, inl, inr, ⊎_elim}
use native.Mathlib.Nat.{pow-suc}
use Rattle.std.proofs.lemmas.Bool.{cases_lt, le-leb, lt-leb}
use Rattle.std.proofs.lemmas.Option.{none-some, same_Some}
use lib.ListN.{length}
use lib.Seq.{take_at}
use Rattle.std.specs.Prelude.{None, Some}
use Rattle.rounding.specs.Root.{Root, root}
use Rattle.rounding.specs.Search.{next_candidate, hydrogen_below, first_candidate, round_of, candidates_from, candidates, Rounds, last, another, most_rounds}
use Rattle.rounding.specs.Answers.{tried_in}
use Rattle.rounding.specs.Laws.{EverySearch, SearchesOfGases, SearchAnswers, NoFewerRounds}
use Rattle.rounding.proofs.RootLaws.{below_of_squares, root_is, root_greatest}
use Rattle.rounding.proofs.Newton.{not_below, half_as_far, positive, Close, closer, root_next}
use Rattle.rounding.proofs.FirstCandidate.{low_distance, first_starts, first_distant, first_close}

-- what a round answers, and what its answer says of its candidate
module _ (n c : ℕ) where
  pub is_last : c * c ≤ n → None ≡ round_of n c
  unfolding round_of
  is_last h = rw (le-leb (c * c) n h)

  pub is_next : n < c * c → Some (next_candidate n c) ≡ round_of n c
  unfolding round_of
  is_next h = rw (lt-leb (c * c) n h)

  pub when_none : round_of n c ≡ None → c * c ≤ n
  when_none e = ⊎_elim (λ h. absurd (none-some _ (sym (is_next h ∙ e)))) (λ h. h) (cases_lt n (c * c))

  pub when_some : (d : ℕ) → round_of n c ≡ Some d → (n < c * c) × (next_candidate n c ≡ d)
  when_some d e = ⊎_elim (λ h. (h, same_Some _ _ (is_next h ∙ e))) (λ h. absurd (none-some _ (is_last h ∙ e))) (cases_lt n (c * c))

-- and what follows it
module _ (n f c : ℕ) where
  pub from_last : c * c ≤ n → candidates_from n (suc f) c ≡ c ∷ []
  unfolding candidates_from
  from_last h = rw (← is_last n c h)

  pub from_another : n < c * c → candidates_from n (suc f) c ≡ c ∷ candidates_from n f (next_candidate n c)
  unfolding candidates_from
  from_another h = rw (← is_next n c h)

module _ (n : ℕ) (is : Root (root n) n) where
  -- a candidate that is at least the root, and whose square is at most n, is the root
  pub root_found : {c : ℕ} → root n ≤ c → c * c ≤ n → c ≡ root n
  root_found {c} l h = omega (arith, root_greatest is c h)

  above : {c : ℕ} → n < c * c → root n < c
  above {c} h = below_of_squares (root n) c n is.square h

  -- from a candidate less than 2^k above the root k + 1 rounds are enough, since each halves the distance
  halving : (f k c : ℕ) → k < f → root n ≤ c → c < root n + 2 ^ k → Rounds n c (candidates_from n f c) × (length (candidates_from n f c) ≤ k + 1)
  halving zero k c h l u = absurd (omega arith)
  halving (suc f) k c h l u = either k h u (halving f) (cases_lt n (c * c))
    where
      either : (j : ℕ) → j < suc f → c < root n + 2 ^ j
          → ((i e : ℕ) → i < f → root n ≤ e → e < root n + 2 ^ i → Rounds n e (candidates_from n f e) × (length (candidates_from n f e) ≤ i + 1))
          → (n < c * c) ⊎ (c * c ≤ n)
          → Rounds n c (candidates_from n (suc f) c) × (length (candidates_from n (suc f) c) ≤ j + 1)
      either j h u after (inr s) = let r : Root c n = rw (root_found l s) is in rw (from_last n f c s) (last r, omega arith)
      either zero h u after (inl s) = absurd (omega (arith, above s))
      either (suc j) h u after (inl s) =
          let next = after j (next_candidate n c) (omega arith) (not_below n c is (positive n c s)) (omega (arith, half_as_far n c is (above s), rw (pow-suc 2 j) at u)) in
          rw (from_another n f c s) (another {c = c} (λ r. omega (arith, r.square)) next.0, omega (arith, next.1))

-- the candidates from c on, of which f are listed at most, are j at most
record Ends (n f c j : ℕ) : Type 0 where
  few : length (candidates_from n f c) ≤ j

module _ {n : ℕ} where
  -- a round more than from the next candidate
  one_more : {f c j : ℕ} → (n < c * c → Ends n f (next_candidate n c) j) → Ends n (suc f) c (suc j)
  one_more {f} {c} {j} after =
      ⊎_elim
      (λ s. record { few = rw (from_another n f c s) (omega (arith, (after s).few)) })
      (λ s. record { few = rw (from_last n f c s) (omega arith) })
      (cases_lt n (c * c))

  -- which is closer
  nearer : {f c p q p' q' j : ℕ} → 0 < q → p * p * q' ≤ 4 * (q * (p + q)) * p' → (Close p' q' n (next_candidate n c) → Ends n f (next_candidate n c) j) → Close p q n c → Ends n (suc f) c (suc j)
  nearer {f} {c} {p} {q} {p'} {q'} hq k after a = one_more (λ s. after (closer n c s p q p' q' hq k a))

  module _ (small : n < 2 ^ 64) where
    two : {f c : ℕ} → Close 1 100000000000 n c → Ends n (suc (suc f)) c 2
    two {f} {c} a = one_more (λ s. record { few = rw (from_last n f (next_candidate n c) (root_next n c s small a)) (omega arith) })

    -- Six from a candidate whose square is at most 1.1419 n above n: those after it are at most 0.1522 n, 0.00503 n, 0.0000063 n and
    -- 10^-11 n above, each at least what the one before allows. Seven from one whose square is at most 2.08 n above n.
    six : {f c : ℕ} → Close 11419 10000 n c → Ends n (suc (suc (suc (suc (suc (suc f)))))) c 6
    six =
        nearer {p' = 1522} {q' = 10000} (omega arith) (omega arith)
        (nearer {p' = 503} {q' = 100000} (omega arith) (omega arith)
        (nearer {p' = 63} {q' = 10000000} (omega arith) (omega arith)
        (nearer {p' = 1} {q' = 100000000000} (omega arith) (omega arith) two)))

    seven : {f c : ℕ} → Close 208 100 n c → Ends n (suc (suc (suc (suc (suc (suc (suc f))))))) c 7
    seven = nearer {p' = 11419} {q' = 10000} (omega arith) (omega arith) six

module _ (n : ℕ) (small : n < 2 ^ 64) where
  is : Root (root n) n
  is = root_is n small

  few : length (candidates n) ≤ most_rounds
  unfolding candidates
  few =
      ⊎_elim
      (λ g. (halving n is 40 27 (first_candidate n) (omega arith) (first_starts n is small).least (low_distance n is g)).1)
      (λ l. omega (arith, (seven small {f = 33} (first_distant n is l small)).few))
      (cases_lt n hydrogen_below)

  in_rounds : Rounds n (first_candidate n) (candidates n)
  unfolding candidates
  in_rounds =
      let s = first_starts n is small in
      (halving n is 40 32 (first_candidate n) (omega arith) s.least (omega (arith, s.top))).0

pub every_search : EverySearch
every_search n small = record { rounds = in_rounds n small; few = few n small }

pub searches_of_gases : SearchesOfGases
unfolding candidates
searches_of_gases n l u =
    let small : n < 2 ^ 64 = omega arith in
    record { rounds = in_rounds n small; few = (six small {f = 34} (first_close n (is n small) l u)).few }

pub search_answers : SearchAnswers
search_answers n found s =
    let e : tried_in found ≡ candidates n = rw (s.rounds_are, s.tried_are) (take_at (candidates n) _ (length (candidates n)) refl) in
    (rw e s.rounds_are, e)

pub no_fewer_rounds : NoFewerRounds
unfolding next_candidate first_candidate round_of candidates_from candidates
no_fewer_rounds = (refl, refl)
