-- A day file taken block by block: what has been taken, and what is still to come.
use mathlib.Core.Path.{◌≡◌, refl, sym, ap, ◌∙◌}
use mathlib.Core.List.{List, [], ◌∷◌}
use Prim.Native.Nat.{ℕ, ◌+◌, ◌≤◌}
use native.Mathlib.Omega.{arith}
use lib.ListN.{length}
use Rattle.records.specs.Order.{Outcome, refused, accepted, one_accepted, otherwise}
use Rattle.meter.specs.declared.day.Counts.{Counts}
use Rattle.meter.specs.Days.{Day, no_day, day_by}

-- an accepted call counts as one
one_at_most : {A : Type 0} (o : Outcome A) → one_accepted o ≤ 1
one_at_most (refused n) = omega arith
one_at_most (accepted a) = omega arith

module _ {A : Type 0} (analysis : A → List ℕ → Outcome A) (metering : A → ℕ → Outcome A) where
  -- with no block more, or no volume more, nothing is taken
  pub no_blocks : (s : A) {bs : List (List ℕ)} (vs : List ℕ) → bs ≡ [] → day_by analysis metering s bs vs ≡ no_day s
  no_blocks s vs e = rw e

  pub no_volumes : (s : A) (bs : List (List ℕ)) {vs : List ℕ} → vs ≡ [] → day_by analysis metering s bs vs ≡ no_day s
  no_volumes s [] e = refl
  no_volumes s (b ∷ bs) e = rw e

  -- the whole day is what has been counted and what is still taken; no call counts twice
  pub record Taken (all : Day A) (most : ℕ) (counts : Counts) (s : A) (bs : List (List ℕ)) (vs : List ℕ) : Type 0 where
    pub left : all.left ≡ (day_by analysis metering s bs vs).left
    pub analyses : all.counts.analyses ≡ counts.analyses + (day_by analysis metering s bs vs).counts.analyses
    pub volumes : all.counts.volumes ≡ counts.volumes + (day_by analysis metering s bs vs).counts.volumes
    pub few_analyses : counts.analyses + length vs ≤ most
    pub few_volumes : counts.volumes + length vs ≤ most

  module _ (all : Day A) (most : ℕ) where
    pub at_first : (s : A) (bs : List (List ℕ)) (vs : List ℕ) (c : Counts) → c.analyses ≡ 0 → c.volumes ≡ 0 → all ≡ day_by analysis metering s bs vs →
        length vs ≤ most → Taken all most c s bs vs
    at_first s bs vs c a v is few =
        record {
          left = ap (λ (d : Day A). d.left) is;
          analyses = ap (λ (d : Day A). d.counts.analyses) is ∙ omega (arith, a);
          volumes = ap (λ (d : Day A). d.counts.volumes) is ∙ omega (arith, v);
          few_analyses = omega (arith, a);
          few_volumes = omega (arith, v);
        }

    -- a block and its volume
    module _ {c x : Counts} {s s₁ : A} {bs ds : List (List ℕ)} {vs ws : List ℕ} {b : List ℕ} {v : ℕ} (t : Taken all most c s bs vs) (blocks : bs ≡ b ∷ ds)
        (volumes : vs ≡ v ∷ ws) (is : ◌≡◌ {A = Day A} (record { counts = x; left = s₁ }) (day_by analysis metering s (b ∷ []) (v ∷ []))) where
      one-analysis : x.analyses ≡ one_accepted (analysis s b) + 0
      one-analysis = ap (λ (d : Day A). d.counts.analyses) is

      one-volume : x.volumes ≡ one_accepted (metering (otherwise s (analysis s b)) v) + 0
      one-volume = ap (λ (d : Day A). d.counts.volumes) is

      pub counts_fit : (c.analyses + x.analyses ≤ most) × (c.volumes + x.volumes ≤ most)
      counts_fit = (
        omega (arith, rw volumes at t.few_analyses, one-analysis, one_at_most (analysis s b)),
        omega (arith, rw volumes at t.few_volumes, one-volume, one_at_most (metering (otherwise s (analysis s b)) v)),
      )

      pub one_taken : Taken all most (record { analyses = c.analyses + x.analyses; volumes = c.volumes + x.volumes }) s₁ ds ws
      one_taken =
          let left : s₁ ≡ otherwise (otherwise s (analysis s b)) (metering (otherwise s (analysis s b)) v) = ap (λ (d : Day A). d.left) is in
          record {
            left = rw (blocks, volumes, ← left) at t.left;
            analyses = omega (arith, rw (blocks, volumes, ← left) at t.analyses, one-analysis);
            volumes = omega (arith, rw (blocks, volumes, ← left) at t.volumes, one-volume);
            few_analyses = omega (arith, rw volumes at t.few_analyses, one-analysis, one_at_most (analysis s b));
            few_volumes = omega (arith, rw volumes at t.few_volumes, one-volume, one_at_most (metering (otherwise s (analysis s b)) v));
          }

    -- with no volume more, or no block more, the day is over
    pub over : {c : Counts} {s : A} {bs : List (List ℕ)} {vs : List ℕ} → Taken all most c s bs vs → day_by analysis metering s bs vs ≡ no_day s →
        ◌≡◌ {A = Day A} (record { counts = c; left = s }) all
    over {c} {s} t none =
        let left = sym (t.left ∙ ap (λ (d : Day A). d.left) none) in
        let analyses : c.analyses ≡ all.counts.analyses = omega (arith, t.analyses, ap (λ (d : Day A). d.counts.analyses) none) in
        let volumes : c.volumes ≡ all.counts.volumes = omega (arith, t.volumes, ap (λ (d : Day A). d.counts.volumes) none) in
        λ i. record { counts = record { analyses = analyses i; volumes = volumes i }; left = left i }
