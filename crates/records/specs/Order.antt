-- Orders of refusals ("When a call says no" of document 01), and what comes back from a call that tries one.
use Rattle.std.specs.Prelude.{Bool, false, cond, List, [], ◌∷◌, ℕ, zero, suc, eqb}

-- conditions with their numbers, in the order in which they are tried
abbrev pub Order : Type 0
Order = List (ℕ × Bool)

-- the number of the first condition that holds, 0 where none does
abbrev pub first_of : Order → ℕ
first_of [] = 0
first_of ((n, holds) ∷ rest) = cond holds n (first_of rest)

-- the numbers of an order
abbrev pub numbers_of : Order → List ℕ
numbers_of [] = []
numbers_of ((n, holds) ∷ rest) = n ∷ numbers_of rest

-- whether the condition with a number holds
abbrev pub condition_of : ℕ → Order → Bool
condition_of n [] = false
condition_of n ((m, holds) ∷ rest) = cond (eqb m n) holds (condition_of n rest)

-- what comes back from a call: the number of its refusal, or its answer
pub data Outcome (A : Type 0) : Type 0 where
  refused : ℕ → Outcome A
  accepted : A → Outcome A

module _ {A : Type 0} where
  -- accepted with this answer where no condition holds (number 0), refused with the number where one does
  abbrev pub decided : ℕ → A → Outcome A
  decided zero a = accepted a
  decided (suc n) a = refused (suc n)

  -- the answer or, where the call is refused, another value
  abbrev pub otherwise : A → Outcome A → A
  otherwise other (refused n) = other
  otherwise other (accepted a) = a

-- an accepted call counts as one
abbrev pub one_accepted : {A : Type 0} → Outcome A → ℕ
one_accepted (refused n) = 0
one_accepted (accepted a) = 1

-- the same outcome, with its answer turned into another
abbrev pub mapped : {A B : Type 0} → (A → B) → Outcome A → Outcome B
mapped f (refused n) = refused n
mapped f (accepted a) = accepted (f a)
