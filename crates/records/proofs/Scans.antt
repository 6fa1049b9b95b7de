-- The entry scan over lists: what holds of the entries before an index, and what is left from it on.
use mathlib.Core.Path.{◌≡◌, refl, sym, ap, ◌∙◌}
use mathlib.Core.Bool.{Bool, true, false, ◌&&◌, ◌||◌, cond, or_assoc, or-false}
use mathlib.Core.List.{List}
use mathlib.Core.Logic.{◌⊎◌, inl, inr}
use Prim.Native.Nat.{ℕ, ◌+◌, ◌*◌, ◌^◌, ◌≤◌, ◌<◌}
use native.Mathlib.Nat.{add-zero}
use native.Mathlib.Numerals.{add-one}
use native.Mathlib.Omega.{arith}
use borrow.Author.Tests.{leb-false, eq-eqb, ne_eqb}
use lib.Dec.{T, eqb, eqb→eq, leb, ltb}
use lib.ListN.{length, get_or, drop, drop_of_length-le}
use lib.Seq.{drop-cons}
use Rattle.std.proofs.lemmas.Bool.{or_parts}
use Rattle.components.specs.Composition.{methane, hydrogen, hydrogen_class, total, fraction_for}
use Rattle.components.proofs.SumLaws.{total_step}
use Rattle.records.specs.Order.{first_of}
use Rattle.records.specs.Conditions.{water, line_breaks, fraction_zero, sum_outside, methane_low, above_limit, any_above, water_high, limits_order, lines_order, fractions_order}

-- the line number of an entry decides 7, or the entries after it do
line_step : (ls : List ℕ) (before k : ℕ) → k < length ls →
    line_breaks before (drop k ls) ≡ ((leb (get_or ls k 0) before || ltb 55 (get_or ls k 0)) || line_breaks (get_or ls k 0) (drop (k + 1) ls))
unfolding line_breaks
line_step ls before k h = rw (add-one, drop-cons ls k 0, or_assoc (leb (get_or ls k 0) before))

-- no line number before k breaks 7, and the last of them is `before`
pub record Ascended (ls : List ℕ) (before k : ℕ) : Type 0 where
  pub within : k ≤ length ls
  pub lines : line_breaks 0 ls ≡ line_breaks before (drop k ls)

module _ {ls : List ℕ} {before k : ℕ} (a : Ascended ls before k) where
  module _ (h : k < length ls) where
    pub breaks_here : (leb (get_or ls k 0) before || ltb 55 (get_or ls k 0)) ≡ true → 7 ≡ first_of (lines_order ls)
    breaks_here b = rw (a.lines, line_step ls before k h, b)

    pub next_passed : (leb (get_or ls k 0) before || ltb 55 (get_or ls k 0)) ≡ false → Ascended ls (get_or ls k 0) (k + 1)
    next_passed b = record { within = omega arith; lines = a.lines ∙ line_step ls before k h ∙ rw b }

  pub all_passed : length ls ≤ k → 0 ≡ first_of (lines_order ls)
  unfolding line_breaks
  all_passed h = rw (a.lines, drop_of_length-le ls h)

-- the fraction of a line is that of an entry passed; or 0 is noted, and it is that of the entries left
abbrev Found : ℕ → List ℕ → List ℕ → ℕ → ℕ → ℕ → Type 0
Found line ls xs before noted k =
    ((line ≤ before) × (fraction_for line ls xs ≡ noted)) ⊎ ((noted ≡ 0) × (fraction_for line ls xs ≡ fraction_for line (drop k ls) (drop k xs)))

-- what is noted of the entries before k, none of which has fraction 0, in lists where no line number breaks 7
pub record Noted (ls xs : List ℕ) (sum of_methane : ℕ) (class outside inside : Bool) (of_water k : ℕ) : Type 0 where
  pub within : k ≤ length ls
  pub small : sum ≤ k * 2 ^ 32
  -- the line number of the last of them
  pub before : ℕ
  pub lines : line_breaks before (drop k ls) ≡ false
  pub zeros : fraction_zero xs ≡ fraction_zero (drop k xs)
  pub whole : total xs ≡ sum + total (drop k xs)
  pub methane_found : Found methane ls xs before of_methane k
  -- hydrogen, of which its class alone is noted
  pub of_hydrogen : ℕ
  pub hydrogen_found : Found hydrogen ls xs before of_hydrogen k
  pub class_lem : class ≡ hydrogen_class of_hydrogen
  pub outside_lem : any_above false ls xs ≡ (outside || any_above false (drop k ls) (drop k xs))
  pub inside_lem : any_above true ls xs ≡ (inside || any_above true (drop k ls) (drop k xs))
  pub water_found : Found water ls xs before of_water k

-- one more entry, whose line number is above the one before
found_step : (line l x before noted rest whole : ℕ) (is : Bool) → (T is → l ≡ line) → before < l
    → ((line ≤ before) × (whole ≡ noted)) ⊎ ((noted ≡ 0) × (whole ≡ cond is x rest))
    → ((line ≤ l) × (whole ≡ cond is x noted)) ⊎ ((cond is x noted ≡ 0) × (whole ≡ rest))
found_step line l x before noted rest whole true is h (inl (p, e)) = absurd (omega (arith, is tt))
found_step line l x before noted rest whole true is h (inr (z, e)) = inl (omega (arith, is tt), e)
found_step line l x before noted rest whole false is h (inl (p, e)) = inl (omega arith, e)
found_step line l x before noted rest whole false is h (inr (z, e)) = inr (z, e)

-- the class is that of what is noted of hydrogen
class_step : {A B : Type 0} (l x before h : ℕ) (class is : Bool) → (T is → l ≡ hydrogen) → before < l → ((hydrogen ≤ before) × A) ⊎ ((h ≡ 0) × B)
    → class ≡ hydrogen_class h → (class || (is && hydrogen_class x)) ≡ hydrogen_class (cond is x h)
class_step l x before h class true is up (inl f) c = absurd (omega (arith, is tt, f.0))
class_step l x before h class true is up (inr f) c = rw (c, f.0) refl
class_step l x before h class false is up f c = rw or-false c

-- at an entry
module _ {ls xs : List ℕ} {sum of_methane : ℕ} {class outside inside : Bool} {of_water k : ℕ} (n : Noted ls xs sum of_methane class outside inside of_water k) (hl : k < length ls) (hx : k < length xs) where
  abbrev l : ℕ
  l = get_or ls k 0

  abbrev x : ℕ
  x = get_or xs k 0

  zeros_step : fraction_zero xs ≡ (eqb x 0 || fraction_zero (drop (k + 1) xs))
  unfolding fraction_zero
  zeros_step = n.zeros ∙ rw (add-one, drop-cons xs k 0)

  -- 8 holds
  pub zero_here : x ≡ 0 → 8 ≡ first_of (fractions_order ls xs)
  zero_here z = rw (zeros_step, eq-eqb x 0 z)

  -- the line number does not break 7, and none after it does
  lines_here : ((leb l n.before || ltb 55 l) ≡ false) × (line_breaks l (drop (k + 1) ls) ≡ false)
  lines_here = or_parts _ _ (sym (line_step ls n.before k hl) ∙ n.lines)

  left : (line : ℕ) → fraction_for line (drop k ls) (drop k xs) ≡ cond (eqb l line) x (fraction_for line (drop (k + 1) ls) (drop (k + 1) xs))
  unfolding fraction_for
  left line = rw (add-one, drop-cons ls k 0, drop-cons xs k 0)

  found : (line noted : ℕ) → Found line ls xs n.before noted k → Found line ls xs l (cond (eqb l line) x noted) (k + 1)
  found line noted f =
      found_step line l x n.before noted _ _ (eqb l line) (λ t. eqb→eq l line t) (leb-false _ _ (or_parts _ _ lines_here.0).0) (rw (left line) at f)

  above_step : (class above : Bool) → any_above class ls xs ≡ (above || any_above class (drop k ls) (drop k xs))
      → any_above class ls xs ≡ ((above || above_limit class l x) || any_above class (drop (k + 1) ls) (drop (k + 1) xs))
  unfolding any_above
  above_step class above e = e ∙ rw (add-one, drop-cons ls k 0, drop-cons xs k 0, or_assoc above)

  pub next_noted : (x ≡ 0 → ⊥) → x < 2 ^ 32
      → Noted ls xs (sum + x) (cond (eqb l methane) x of_methane) (class || (eqb l hydrogen && hydrogen_class x)) (outside || above_limit false l x) (inside || above_limit true l x) (cond (eqb l water) x of_water) (k + 1)
  next_noted z w =
      record {
        within = omega arith;
        small = omega (arith, n.small);
        before = l;
        lines = lines_here.1;
        zeros = zeros_step ∙ rw (ne_eqb x 0 z);
        whole = omega (arith, n.whole, total_step xs k hx);
        methane_found = found methane of_methane n.methane_found;
        of_hydrogen = cond (eqb l hydrogen) x n.of_hydrogen;
        hydrogen_found = found hydrogen n.of_hydrogen n.hydrogen_found;
        class_lem = class_step l x n.before n.of_hydrogen class (eqb l hydrogen) (λ t. eqb→eq l hydrogen t) (leb-false _ _ (or_parts _ _ lines_here.0).0) n.hydrogen_found n.class_lem;
        outside_lem = above_step false outside n.outside_lem;
        inside_lem = above_step true inside n.inside_lem;
        water_found = found water of_water n.water_found;
      }

-- after the last entry
found_all : (line : ℕ) (ls xs : List ℕ) (before noted k : ℕ) → length ls ≤ k → Found line ls xs before noted k → fraction_for line ls xs ≡ noted
unfolding fraction_for
found_all line ls xs before noted k h (inl (p, e)) = e
found_all line ls xs before noted k h (inr (z, e)) = e ∙ rw (drop_of_length-le ls h, z)

module _ {ls xs : List ℕ} {sum of_methane : ℕ} {class outside inside : Bool} {of_water k : ℕ} (n : Noted ls xs sum of_methane class outside inside of_water k) (hl : length ls ≤ k) (hx : length xs ≤ k) where
  none_left : (class above : Bool) → any_above class ls xs ≡ (above || any_above class (drop k ls) (drop k xs)) → any_above class ls xs ≡ above
  unfolding any_above
  none_left class above e = e ∙ rw (drop_of_length-le ls hl, or-false)

  above_is : (class : Bool) → any_above class ls xs ≡ cond class inside outside
  above_is true = none_left true inside n.inside_lem
  above_is false = none_left false outside n.outside_lem

  pub all_noted : {r : ℕ} → r ≡ first_of (limits_order (sum_outside sum) (methane_low class of_methane) (cond class inside outside) (water_high class of_water))
      → r ≡ first_of (fractions_order ls xs)
  unfolding fraction_zero total
  all_noted e =
      let ex = drop_of_length-le xs hx in
      let z : fraction_zero xs ≡ false = n.zeros ∙ rw ex in
      let t : total xs ≡ sum = n.whole ∙ rw (ex, add-zero) in
      let m : fraction_for methane ls xs ≡ of_methane = found_all methane ls xs n.before of_methane k hl n.methane_found in
      let c : hydrogen_class (fraction_for hydrogen ls xs) ≡ class = ap hydrogen_class (found_all hydrogen ls xs n.before n.of_hydrogen k hl n.hydrogen_found) ∙ sym n.class_lem in
      let w : fraction_for water ls xs ≡ of_water = found_all water ls xs n.before of_water k hl n.water_found in
      e ∙ rw (z, t, m, c, w, above_is class)
