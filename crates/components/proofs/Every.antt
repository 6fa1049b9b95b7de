-- A test that antt computes at each number below n, or at each element of a list, gives what it tests at any of them.
use mathlib.Core.Path.{◌≡◌, sym, subst}
use mathlib.Core.Bool.{Bool, true, false, ◌&&◌, ◌||◌}
use mathlib.Core.List.{List, [], ◌∷◌}
use mathlib.Core.Logic.{⊎_elim}
use Prim.Native.Nat.{ℕ, zero, suc, ◌<◌}
use native.Mathlib.Nat.{le_of_suc-le-suc, not-suc-le-zero, eq-or-lt_of_le}
use lib.Dec.{T}
use lib.Ieee.Fits.{and_l, and_r}
use lib.ListN.{get_or}
use Rattle.components.specs.Tests.{all}

-- a test with an exception passes where the exception does not hold
pub unless : (a b : Bool) → a ≡ false → T (a || b) → T b
unless true b e t = absurd (subst T e tt)
unless false b e t = t

-- the test passes at each number below n
abbrev pub every : (ℕ → Bool) → ℕ → Bool
every f zero = true
every f (suc n) = f n && every f n

pub at : (f : ℕ → Bool) (n : ℕ) → T (every f n) → (k : ℕ) → k < n → T (f k)
at f zero t k h = absurd (not-suc-le-zero h)
at f (suc n) t k h =
    ⊎_elim
    (λ e. subst (λ (m : ℕ). T (f m)) (sym e) (and_l (f n) (every f n) t))
    (λ l. at f n (and_r (f n) (every f n) t) k l)
    (eq-or-lt_of_le (le_of_suc-le-suc h))

-- the same for each pair of numbers
pub at₂ : (f : ℕ → ℕ → Bool) (m n : ℕ) → T (every (λ (l : ℕ). every (f l) n) m) → (l c : ℕ) → l < m → c < n → T (f l c)
at₂ f m n t l c hl hc = at (f l) n (at (λ (l : ℕ). every (f l) n) m t l hl) c hc

-- a test that passes at each element of a list passes at every index, where it passes at what stands past the end
pub all_at : {A : Type 0} (f : A → Bool) (xs : List A) (d : A) → T (all f xs) → T (f d) → (k : ℕ) → T (f (get_or xs k d))
all_at f [] d t e k = e
all_at f (x ∷ xs) d t e zero = and_l (f x) (all f xs) t
all_at f (x ∷ xs) d t e (suc k) = all_at f xs d (and_r (f x) (all f xs) t) e k
