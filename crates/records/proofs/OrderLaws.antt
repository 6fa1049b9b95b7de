-- Laws of orders of refusals: which part of an order decides, what is known where no condition holds, and what a call then gives.
use mathlib.Core.Path.{◌≡◌, refl, sym, ap, subst, ◌∙◌}
use mathlib.Core.Bool.{Bool, true, false, not, ◌&&◌, ◌||◌}
use mathlib.Core.List.{[], ◌∷◌, ◌++◌}
use Prim.Native.Nat.{ℕ, zero, suc}
use native.Mathlib.Omega.{arith}
use borrow.Author.Tests.{eq-eqb}
use lib.Dec.{T, eqb}
use lib.Ieee.Fits.{and_r}
use Rattle.std.proofs.lemmas.Bool.{cond_both}
use Rattle.std.specs.Prelude.{Result, Ok, Err}
use Rattle.std.specs.Result.{IsErrAnd}
use Rattle.records.specs.declared.refusal.Refusal.{Refusal}
use Rattle.records.specs.Order.{Order, first_of, condition_of, Outcome, refused, accepted, decided, otherwise, mapped}
use Rattle.records.specs.Refusals.{Verdict, number, number_in}
use Rattle.records.specs.Answers.{Gives}

-- no number of the order is 0
abbrev pub numbered : Order → Bool
numbered [] = true
numbered ((zero, holds) ∷ rest) = false
numbered ((suc n, holds) ∷ rest) = numbered rest

-- where a condition of the first part holds, the first part decides
pub stops : (a b : Order) {r : ℕ} → r ≡ first_of a → (r ≡ 0 → ⊥) → r ≡ first_of (a ++ b)
stops [] b e h = absurd (h e)
stops ((n, true) ∷ rest) b e h = e
stops ((n, false) ∷ rest) b e h = stops rest b e h

-- where none does, the second part decides
pub passes : (a b : Order) {r s : ℕ} → T (numbered a) → r ≡ first_of a → r ≡ 0 → s ≡ first_of b → s ≡ first_of (a ++ b)
passes [] b t e z h = h
passes ((zero, holds) ∷ rest) b t e z h = absurd t
passes ((suc n, true) ∷ rest) b t e z h = absurd (omega arith)
passes ((suc n, false) ∷ rest) b t e z h = passes rest b t e z h

-- where no condition of an order holds, none of either part does
pub clear_first : (a b : Order) → T (numbered a) → first_of (a ++ b) ≡ 0 → first_of a ≡ 0
clear_first [] b t h = refl
clear_first ((zero, holds) ∷ rest) b t h = absurd t
clear_first ((suc n, true) ∷ rest) b t h = h
clear_first ((suc n, false) ∷ rest) b t h = clear_first rest b t h

pub clear_second : (a b : Order) → T (numbered a) → first_of (a ++ b) ≡ 0 → first_of b ≡ 0
clear_second a b t h = passes a b t refl (clear_first a b t h) refl ∙ h

-- where no condition of an order holds, that of each number does not
pub unmet : (o : Order) → T (numbered o) → first_of o ≡ 0 → (n : ℕ) → condition_of n o ≡ false
unmet [] t h n = refl
unmet ((zero, holds) ∷ rest) t h n = absurd t
unmet ((suc m, true) ∷ rest) t h n = absurd (omega arith)
unmet ((suc m, false) ∷ rest) t h n = cond_both (eqb (suc m) n) false (condition_of n rest) (λ (b : Bool). b ≡ false) (λ e. refl) (λ e. unmet rest t h n)

-- no condition of an order that has the number n holds; so n is not what the order gives
abbrev pub never : ℕ → Order → Bool
never n [] = true
never n ((m, holds) ∷ rest) = (not (eqb m n) || not holds) && never n rest

not_first : (n : ℕ) (o : Order) → T (never n o) → (n ≡ 0 → ⊥) → n ≡ first_of o → ⊥
not_first n [] t some e = some e
not_first n ((m, true) ∷ rest) t some e = absurd (subst (λ (b : Bool). T ((not b || false) && never n rest)) (eq-eqb m n (sym e)) t)
not_first n ((m, false) ∷ rest) t some e = not_first n rest (and_r (not (eqb m n) || true) (never n rest) t) some e

-- no refusal has the number 0
pub some_number : (e : Refusal) → number e ≡ 0 → ⊥
some_number e h = grind arith

-- the number of a refusal that a caller passes on
pub number_passed : {A : Type 0} (r : Result A Refusal) (e : Refusal) → IsErrAnd r (λ y. y ≡ e) → number_in r ≡ number e
number_passed (Ok a) e h = absurd h
number_passed (Err y) e h = ap number h

module _ {A : Type 0} where
  pub refuses : (n : ℕ) (answer : A) → (n ≡ 0 → ⊥) → decided n answer ≡ refused n
  refuses zero answer h = absurd (h refl)
  refuses (suc n) answer h = refl

  -- beside a refusal
  pub beside : (n : ℕ) (answer other : A) → (n ≡ 0 → ⊥) → other ≡ otherwise other (decided n answer)
  beside zero answer other h = absurd (h refl)
  beside (suc n) answer other h = refl

  -- a refusal, and what stood before it
  pub gives_refused : (v : Verdict) (e : Refusal) {n : ℕ} (answer other : A) → IsErrAnd v (λ y. y ≡ e) → number e ≡ n → Gives (decided n answer) other v other
  gives_refused (Ok _) e answer other is h = absurd is
  gives_refused (Err y) e answer other is h =
      let m = ap number is ∙ h in
      record { means = rw (← m) (sym (refuses (number y) answer (some_number y))); stands = rw (← m) (beside (number y) answer other (some_number y)) }

  -- what an outcome says of the number
  pub decided_accepted : (n : ℕ) (answer value : A) → decided n answer ≡ accepted value → (n ≡ 0) × (answer ≡ value)
  decided_accepted zero answer value e = (refl, cc)
  decided_accepted (suc n) answer value e = let z : ◌≡◌ {A = ℕ} 0 1 = cc in absurd (omega arith)

  pub decided_refused : (n : ℕ) (answer : A) (number : ℕ) → decided n answer ≡ refused number → (number ≡ n) × (number ≡ 0 → ⊥)
  decided_refused zero answer number e = let z : ◌≡◌ {A = ℕ} 0 1 = cc in absurd (omega arith)
  decided_refused (suc n) answer number e = let z : suc n ≡ number = cc in (sym z, λ h. omega arith)

-- a call is not refused by such a number
pub not_refused : {A : Type 0} (n : ℕ) (o : Order) (a : A) → T (never n o) → decided (first_of o) a ≡ refused n → ⊥
not_refused n o a t r = let d = decided_refused (first_of o) a n r in not_first n o t d.1 d.0

pub otherwise_mapped : {A B : Type 0} (f : A → B) (a : A) (o : Outcome A) → otherwise (f a) (mapped f o) ≡ f (otherwise a o)
otherwise_mapped f a (refused n) = refl
otherwise_mapped f a (accepted b) = refl

pub mapped_decided : {A B : Type 0} (f : A → B) (n : ℕ) (answer : A) → mapped f (decided n answer) ≡ decided n (f answer)
mapped_decided f zero answer = refl
mapped_decided f (suc n) answer = refl
