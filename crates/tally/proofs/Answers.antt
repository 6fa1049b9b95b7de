-- Of each number that an order has, the refusal with it: so there is an answer with each outcome that an order decides.
use mathlib.Core.Path.{◌≡◌, refl, ap, ◌∙◌}
use mathlib.Core.Bool.{Bool, true, false, ◌&&◌, false≢true}
use mathlib.Core.List.{List, [], ◌∷◌}
use Prim.Native.Nat.{ℕ, zero, suc, ◌+◌, ◌≤◌, ◌<◌}
use native.Mathlib.Omega.{arith}
use borrow.Author.Tests.{eqb-true, ltb-true}
use lib.Dec.{eqb, ltb}
use lib.ListN.{length, get_or}
use Rattle.std.specs.Prelude.{Result, Ok, Err}
use Rattle.records.specs.declared.refusal.Refusal.{Refusal}
use Rattle.records.specs.declared.refusal.Refusal.TheVariants.{TooShort, MarkDiffers, VersionDiffers, PairNotPermitted, CountOutside, LengthDiffers, LineOutOfOrder, FractionZero, SumOutside, MethaneLow, AboveLimit, WaterHigh, StreamAbove, PairDiffers, VolumeAbove, NoAnalysis, TotalPasses, TotalZero, ListsDiffer, RoomShort, NoDayFile, OffsetOutside, BlockCut}
use Rattle.records.specs.Order.{Order, first_of, refused, accepted, decided, otherwise}
use Rattle.records.specs.Refusals.{Verdict, number, outcome}
use Rattle.records.specs.Answers.{meaning, Gives}
use Rattle.std.proofs.lemmas.Bool.{and_parts}

-- the refusals from 1 on
abbrev refusals : List Refusal
refusals =
    TooShort
    ∷ MarkDiffers
    ∷ VersionDiffers
    ∷ PairNotPermitted
    ∷ CountOutside
    ∷ LengthDiffers
    ∷ LineOutOfOrder
    ∷ FractionZero
    ∷ SumOutside
    ∷ MethaneLow
    ∷ AboveLimit
    ∷ WaterHigh
    ∷ StreamAbove
    ∷ PairDiffers
    ∷ VolumeAbove
    ∷ NoAnalysis
    ∷ TotalPasses
    ∷ TotalZero
    ∷ ListsDiffer
    ∷ RoomShort
    ∷ NoDayFile
    ∷ OffsetOutside
    ∷ BlockCut
    ∷ []

-- a list of refusals whose numbers go on from k
abbrev numbers_from : ℕ → List Refusal → Bool
numbers_from k [] = true
numbers_from k (e ∷ es) = eqb (number e) k && numbers_from (suc k) es

numbered_from : (k : ℕ) (es : List Refusal) (d : Refusal) (i : ℕ) → numbers_from k es ≡ true → i < length es → number (get_or es i d) ≡ k + i
numbered_from k [] d i h low = absurd (omega arith)
numbered_from k (e ∷ es) d zero h low = eqb-true (number e) k (and_parts _ _ h).0 ∙ omega arith
numbered_from k (e ∷ es) d (suc i) h low = numbered_from (suc k) es d i (and_parts _ _ h).1 (omega arith) ∙ omega arith

-- the numbers of an order are those of refusals
abbrev pub known : Order → Bool
known [] = true
known ((zero, holds) ∷ rest) = false
known ((suc n, holds) ∷ rest) = ltb n 23 && known rest

-- the answer with a number, 0 for an acceptance
abbrev pub answer_with : {A : Type 0} → ℕ → A → Result A Refusal
answer_with zero a = Ok a
answer_with (suc n) a = Err (get_or refusals n TooShort)

module _ {A B : Type 0} (f : A → B) (a : A) where
  answer_means : (n : ℕ) → n ≤ 23 → outcome f (answer_with n a) ≡ decided n (f a)
  answer_means zero low = refl
  answer_means (suc n) low = ap refused (numbered_from 1 refusals TooShort n refl low ∙ omega arith)

  first_low : (o : Order) → known o ≡ true → first_of o ≤ 23
  first_low [] h = omega arith
  first_low ((zero, holds) ∷ rest) h = absurd (false≢true h)
  first_low ((suc n, true) ∷ rest) h = ltb-true n 23 (and_parts _ _ h).0
  first_low ((suc n, false) ∷ rest) h = first_low rest (and_parts _ _ h).1

  pub answered_by : (o : Order) → known o ≡ true → outcome f (answer_with (first_of o) a) ≡ decided (first_of o) (f a)
  answered_by o h = answer_means (first_of o) (first_low o h)

-- the verdict with a number
abbrev pub verdict_with : ℕ → Verdict
verdict_with n = answer_with n tt

-- beside what stood before
pub gives_by : {A : Type 0} (o : Order) → known o ≡ true → (answer other : A) {value : A} → value ≡ otherwise other (decided (first_of o) answer) →
    Gives (decided (first_of o) answer) other (verdict_with (first_of o)) value
gives_by o h answer other {value} stands = record { means = means (first_of o) stands (answered_by {A = Unit {0}} (λ _. value) tt o h); stands = stands }
  where
    means : (n : ℕ) → value ≡ otherwise other (decided n answer) → meaning (verdict_with n) value ≡ decided n value → meaning (verdict_with n) value ≡ decided n answer
    means zero is e = e ∙ ap accepted is
    means (suc n) is e = e
