-- The contents of an accepted record are acceptable.
use mathlib.Core.Path.{◌≡◌, sym, subst, ◌∙◌}
use mathlib.Core.Bool.{Bool, true, false}
use mathlib.Core.List.{List, [], ◌∷◌}
use mathlib.Core.Logic.{◌⊎◌, inl, inr}
use Prim.Native.Nat.{ℕ, zero, suc, ◌≤◌, ◌<◌}
use native.Mathlib.Omega.{arith}
use borrow.Author.Tests.{ltb-false, leb-false}
use lib.Dec.{T, ltb, leb→le}
use lib.ListN.{length, get_or}
use Rattle.std.proofs.lemmas.Bool.{or_parts}
use Rattle.components.specs.Composition.{least_methane, least_hydrogen, hydrogen_class, Ascending, total}
use Rattle.records.specs.Order.{first_of}
use Rattle.records.specs.Format.{lines_in, fractions_in, contents_in}
use Rattle.records.specs.Conditions.{least_sum, line_breaks, methane_low, content_order, record_order}
use Rattle.records.specs.Accepted.{Acceptable, AcceptedIsAcceptable}
use Rattle.records.proofs.OrderLaws.{unmet, decided_accepted}
use Rattle.records.specs.Counted.{count_lines, count_fractions}
use Rattle.records.proofs.RoundTrips.{accepted_content}

ascends : (before : ℕ) (ls : List ℕ) → line_breaks before ls ≡ false → Ascending before ls
unfolding line_breaks Ascending
ascends before [] h = tt
ascends before (l ∷ ls) h =
    let e = or_parts _ _ h in
    let f = or_parts _ _ e.1 in
    (leb-false _ _ e.0, ltb-false _ _ f.0, ascends l ls f.1)

in_table : (before : ℕ) (ls : List ℕ) → Ascending before ls → (k : ℕ) → k < length ls → (1 ≤ get_or ls k 0) × (get_or ls k 0 ≤ 55)
unfolding Ascending
in_table before [] a k h = absurd (omega arith)
in_table before (l ∷ ls) a zero h = (omega (arith, a.0), a.1)
in_table before (l ∷ ls) a (suc k) h = in_table l ls a.2 k (omega arith)

-- where 10 does not hold, the gas is in the hydrogen class, or methane is not below its house limit
large_share : (h m : ℕ) → methane_low (hydrogen_class h) m ≡ false → (least_methane ≤ m) ⊎ (least_hydrogen ≤ h)
large_share h m e = go (hydrogen_class h) (λ t. leb→le _ _ t) e
  where
    go : (class : Bool) → (T class → least_hydrogen ≤ h) → methane_low class m ≡ false → (least_methane ≤ m) ⊎ (least_hydrogen ≤ h)
    go true is n = inr (is tt)
    go false is n = inl (ltb-false _ _ n)

pub acceptable : (bs : List ℕ) → first_of (record_order bs) ≡ 0 → Acceptable (contents_in bs)
acceptable bs h =
    let o = unmet (content_order (lines_in bs) (fractions_in bs)) tt (accepted_content bs h) in
    let sum = or_parts (ltb (total (fractions_in bs)) least_sum) _ (o 9) in
    let up = ascends 0 (lines_in bs) (o 7) in
    record {
      composition = record {
        same = count_lines bs ∙ sym (count_fractions bs);
        lines = in_table 0 (lines_in bs) up;
        sum = ltb-false _ _ sum.1;
      };
      ascending = up;
      share = large_share _ _ (o 10);
    }

pub accepted_is_acceptable : AcceptedIsAcceptable
accepted_is_acceptable bs k e =
    let d = decided_accepted (first_of (record_order bs)) (contents_in bs) k e in
    subst Acceptable d.1 (acceptable bs d.0)
