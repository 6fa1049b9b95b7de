-- What stands at each place of a list of streams: as made, and after another stream was put at one place. The tally's lists are the same.
use mathlib.Core.Path.{◌≡◌, refl, sym}
use mathlib.Core.Bool.{Bool, true, false, cond}
use mathlib.Core.List.{List}
use Prim.Native.Nat.{ℕ, zero, suc, ◌<◌}
use borrow.Author.Tests.{eqb-true, eqb-false}
use lib.Dec.{eqb}
use lib.ListN.{length, get_or, set, replicate}
use lib.Seq.{get_or-set_same, get_or-set_other}

module _ {A : Type 0} (d : A) where
  pub at_made : (n k : ℕ) → get_or (replicate n d) k d ≡ d
  at_made zero k = refl
  at_made (suc n) zero = refl
  at_made (suc n) (suc k) = at_made n k

  pub at_put : (l : List A) (k j : ℕ) (x : A) → (k ≡ j → j < length l) → get_or (set l k x) j d ≡ cond (eqb k j) x (get_or l j d)
  at_put l k j x within = go (eqb k j) refl
    where
      go : (b : Bool) → eqb k j ≡ b → get_or (set l k x) j d ≡ cond b x (get_or l j d)
      go true e = let same = eqb-true k j e in rw (same, get_or-set_same l j x d (within same))
      go false e = get_or-set_other l k j x d (λ q. eqb-false k j e (sym q))
