-- Bytes that follow on others.
use mathlib.Core.Path.{◌≡◌, refl, sym, ap, ◌∙◌}
use mathlib.Core.List.{List, [], ◌∷◌}
use Prim.Native.Nat.{ℕ, ◌+◌, ◌<◌, ◌≤◌}
use lib.ListN.{length, get_or, drop}
use Rattle.std.specs.Prelude.{Err}
use Rattle.std.proofs.lemmas.List.{at_drop_more, at_drop_all}
use Rattle.gasday.specs.declared.volumes.Fault.{Fault}
use Rattle.gasday.specs.declared.volumes.Unread.{Unread}
use Rattle.gasday.specs.declared.volumes.Unread.TheVariants as unread
use Rattle.gasday.specs.Text.{Reading, wrong, with_byte, with_bytes, Gives}

-- a text that is wrong stays so
pub stays_wrong : (n : ℕ) (fault : Fault) (bs : List ℕ) → with_bytes (wrong n fault) bs ≡ wrong n fault
unfolding with_bytes
stays_wrong n fault [] = refl
stays_wrong n fault (b ∷ bs) = stays_wrong n fault bs

-- the byte at an index, then those after it
pub one_more : (r : Reading) (bs : List ℕ) (i : ℕ) → i < length bs →
    with_bytes r (drop i bs) ≡ with_bytes (with_byte r (get_or bs i 0)) (drop (i + 1) bs)
unfolding with_bytes
one_more r bs i l = at_drop_more (with_bytes r) bs i 0 l

pub goes_on : (r next all : Reading) (bs : List ℕ) (i : ℕ) → i < length bs → next ≡ with_byte r (get_or bs i 0) → with_bytes r (drop i bs) ≡ all →
    with_bytes next (drop (i + 1) bs) ≡ all
goes_on r next all bs i l e h = ap (λ (s : Reading). with_bytes s (drop (i + 1) bs)) e ∙ (sym (one_more r bs i l) ∙ h)

-- no bytes
pub none_left : (r : Reading) (bs : List ℕ) (i : ℕ) → length bs ≤ i → with_bytes r (drop i bs) ≡ r
unfolding with_bytes
none_left r bs i l = at_drop_all (with_bytes r) bs i l

-- what a byte makes wrong, is wrong with all of them
pub wrong_with_all : (r all left now : Reading) (bs : List ℕ) (e : Unread) → with_bytes r bs ≡ all → Gives r (Err e) left → Gives all (Err e) now
wrong_with_all r all left now bs (unread.Line n fault) h g = sym h ∙ (ap (λ (s : Reading). with_bytes s bs) g ∙ stays_wrong n fault bs)
wrong_with_all r all left now bs unread.OutOfMemory h g = tt
