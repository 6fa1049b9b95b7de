-- The gas of every accepted record: its sums and steps within their bounds, its properties between their floors and ceilings and within
-- their distances, and the same of its values per kilogram.
use mathlib.Core.Path.{◌≡◌, refl, sym, ap, ◌∙◌}
use mathlib.Core.Bool.{true, false}
use mathlib.Core.List.{List}
use mathlib.Core.Logic.{inl, inr}
use Prim.Native.Nat.{ℕ, ◌+◌, ◌*◌, ◌^◌, ◌≤◌, ◌<◌}
use native.Mathlib.Nat.{mul-le-mul, mul-le-mul_right}
use native.Mathlib.Omega.{arith}
use lib.IntN.{ℤ, pos, nat_abs}
use mir.Syntax.{w64}
use mir.Val.{to_z, of_z}
use mir.Facts.{to_z-of_z}
use Rattle.rounding.specs.Fraction.{Within, ◌over◌, half, whole}
use Rattle.rounding.specs.Root.{Root}
use Rattle.rounding.proofs.NearLaws.{near_half, near_monotone, near_z_half}
use Rattle.std.proofs.lemmas.Bool.{cond_both}
use Rattle.std.proofs.lemmas.Int.{fits_signed_from_abs}
use Rattle.rounding.proofs.FractionLaws.{within_wider, within_one}
use Rattle.components.specs.Table.{molar_mass, superior, inferior, Heat, Unsigned}
use Rattle.components.specs.Composition.{in_class, sum_of, over_lines}
use Rattle.components.specs.Bounds.{heat_low, heat_high, mass_low, mass_high, heat_by_mass, summation_high, Bounds}
use Rattle.components.proofs.SumLaws.{sum_is_sizes}
use Rattle.components.proofs.AllLines.{sums_run_over_all_lines}
use Rattle.components.proofs.Bounds.{share_bounds, inferior_below, heat_by_mass_lem}
use Rattle.records.specs.Order.{accepted, mapped}
use Rattle.records.specs.Format.{Contents, contents}
use Rattle.records.specs.Calls.{reading_of}
use Rattle.records.specs.Accepted.{Acceptable}
use Rattle.records.proofs.Accepted.{accepted_is_acceptable}
use Rattle.properties.specs.Chain.{combustion_place, sum, T, D, HmSuperior, HmInferior, M, S, S9, Z, Hs, Hi, rho, A, G, d, r, W, ideal_calorific, ideal_density, real, wobbe, root_of, six_of}
use Rattle.properties.specs.Unrounded as unrounded
use Rattle.properties.specs.Quantities.{density_bound, relative_bound, wobbe_bound, Bounded}
use Rattle.properties.specs.Bounds.{divisor_low, divisor_high, air_low, air_high, compression_low, calorific_low, calorific_high, density_low, relative_low, ideal_relative_high, ideal_high, root_low, wobbe_low, Floored, Proper, DensityByAir}
use Rattle.properties.specs.Distances.{Indexed, wobbe_distance, Distances}
use Rattle.properties.specs.PerKilogram.{per_kilogram, unrounded_per_kilogram, mass_basis_of, per_kilogram_distance, PerKilogramShown, MeteringDoesNotMatter}
use Rattle.properties.specs.Accepted.{Amounts, Squares, EveryAcceptedRecord}
use Rattle.properties.proofs.Approximations.{z_low, z_within, real_within}
use Rattle.properties.proofs.Index.{indexed}
use Rattle.properties.proofs.Air.{by_mass, by_air_lem}
use Rattle.properties.proofs.StepBounds.{tenth_high, compression_high, divisor_low_lem, temperature_high, air_low_lem, air_high_lem, air_density_high_lem, metering_place_lem, combustion_place_lem, calorific_near, ideal_calorific_high_lem, ideal_calorific_low, density_near, ideal_density_high, ideal_density_low, relative_near, ideal_relative_high_lem, ideal_relative_low, ideal_by_relative, real_high, real_low, real_by_real, root_of_lem, root_low_lem, wobbe_near, wobbe_by_root, wobbe_high, wobbe_low_lem, per_kilogram_high}

heats : (c : ℕ) → Heat (superior (combustion_place c)) × Heat (inferior (combustion_place c))
heats c = let h = combustion_place_lem c in ((omega arith, omega arith), (omega arith, omega arith))

module _ (k : Contents) (a : Acceptable k) where
  -- the sum over all lines is the sum over the entries
  pub over_entries : (c : ℕ) → over_lines c 55 k.lines k.fractions ≡ sum_of c k.lines k.fractions
  over_entries c = sums_run_over_all_lines c k.lines k.fractions a.ascending

  -- a sum that the code has made over the entries, as the chain's sum
  pub amount_is : {c c' : ℕ} → c ≡ c' → (n : ℕ) → pos n ≡ sum_of c k.lines k.fractions → n ≡ nat_abs (over_lines c' 55 k.lines k.fractions)
  amount_is e n h = rw (over_entries _, ← e) (ap nat_abs h)

  -- no sum of a column without numbers below 0 is below 0
  not_negative : (c : ℕ) → Unsigned c → pos (nat_abs (over_lines c 55 k.lines k.fractions)) ≡ over_lines c 55 k.lines k.fractions
  not_negative c u = rw (over_entries c, sum_is_sizes c u k.lines k.fractions)

  amounts : Amounts k
  unfolding HmSuperior HmInferior M
  amounts =
      let h = heats k.combustion in
      record { HmSuperior = not_negative _ (inr h.0); HmInferior = not_negative _ (inr h.1); M = not_negative _ (inl refl) }

  in_bounds : Bounds k.lines k.fractions
  in_bounds = share_bounds k.lines k.fractions a.composition a.share

  -- a sum of heats is within its bounds
  heat_bounds : (c : ℕ) → Heat c → (heat_low ≤ nat_abs (sum k c)) × (nat_abs (sum k c) ≤ heat_high) × (nat_abs (sum k c) ≤ heat_by_mass * M k)
  unfolding M
  heat_bounds c h = rw (over_entries c, over_entries molar_mass) (in_bounds.heat_low_lem c h, in_bounds.heat_high_lem c h, heat_by_mass_lem c h k.lines k.fractions)

  pub superior_bounds : (heat_low ≤ HmSuperior k) × (HmSuperior k ≤ heat_high) × (HmSuperior k ≤ heat_by_mass * M k)
  unfolding HmSuperior
  superior_bounds = heat_bounds _ (heats k.combustion).0

  pub inferior_bounds : (heat_low ≤ HmInferior k) × (HmInferior k ≤ heat_high) × (HmInferior k ≤ heat_by_mass * M k)
  unfolding HmInferior
  inferior_bounds = heat_bounds _ (heats k.combustion).1

  heats_ordered : HmInferior k ≤ HmSuperior k
  unfolding HmInferior HmSuperior
  heats_ordered = rw (over_entries _, over_entries _) (inferior_below _ (combustion_place_lem k.combustion) k.lines k.fractions)

  pub mass_low_lem : mass_low ≤ M k
  unfolding M
  mass_low_lem = rw (over_entries _) in_bounds.mass_low_lem

  pub mass_high_lem : M k ≤ mass_high
  unfolding M
  mass_high_lem = rw (over_entries _) in_bounds.mass_high_lem

  pub summation_high_lem : nat_abs (S k) ≤ summation_high
  unfolding S
  summation_high_lem = rw (over_entries _) (in_bounds.summation_high_lem _ (metering_place_lem k.metering))

  -- a number that is S is the same as a signed word
  pub summation_word : {s : ℤ} → s ≡ S k → to_z w64 (of_z w64 s) ≡ s
  summation_word is = to_z-of_z (fits_signed_from_abs w64 _ (rw is (omega (arith, summation_high_lem))))

  -- T, D and A

  D-low : divisor_low ≤ D k
  unfolding D T
  D-low = divisor_low_lem k.metering

  D-high : D k ≤ divisor_high
  unfolding D T
  D-high = omega (arith, temperature_high k.metering)

  A-low : air_low ≤ A k
  unfolding A
  A-low = air_low_lem k.metering

  pub A-high : A k ≤ air_high
  unfolding A
  A-high = air_high_lem k.metering

  -- S9 and Z
  squares : Squares k
  unfolding S9
  squares =
      let h = tenth_high (S k) summation_high_lem in
      record { rounded = omega (arith, mul-le-mul h h); unrounded = omega (arith, mul-le-mul summation_high_lem summation_high_lem) }

  s9_within : Within (6 over 10) (nat_abs (S9 k)) (unrounded.tenth (unrounded.S k))
  unfolding S9
  s9_within = within_wider half (6 over 10) _ _ (omega arith) (omega arith) (near_z_half (S k) 10 (omega arith))

  pub Z-low : compression_low ≤ Z k
  unfolding Z
  Z-low = z_low 1 (nat_abs (S k)) (nat_abs (S9 k)) (omega (arith, summation_high_lem)) s9_within

  Z-high : Z k ≤ 10 ^ 9
  unfolding Z
  Z-high = compression_high (nat_abs (S9 k) * nat_abs (S9 k))

  Z-within : Within (whole 2) (Z k) (unrounded.Z k)
  unfolding Z
  Z-within = within_wider (114 over 100) (whole 2) _ _ (omega arith) (omega arith) (z_within 1 (nat_abs (S k)) (nat_abs (S9 k)) (omega (arith, summation_high_lem)) s9_within)

  -- a real quantity is within 2 of its unit: I is its ideal value, N / D the exact one
  real_of : (N D I : ℕ) → Within half I (N over D) → I ≤ ideal_high → Within (whole 2) (real I (Z k)) (unrounded.real (N over (1 * D)) (unrounded.Z k))
  unfolding Z
  real_of N D I h l =
      real_within 1 (nat_abs (S k)) (nat_abs (S9 k)) (omega (arith, summation_high_lem)) s9_within N (1 * D) I (within_wider half (51 over 100) _ _ (omega arith) (omega arith) (within_one h)) l

  -- a calorific value of a sum of heats within its bounds is between its own, and within 2 of its unit
  record Calorific (Hm : ℕ) : Type 0 where
    low : calorific_low ≤ real (ideal_calorific Hm (D k)) (Z k)
    high : real (ideal_calorific Hm (D k)) (Z k) ≤ calorific_high
    within : Within (whole 2) (real (ideal_calorific Hm (D k)) (Z k)) (unrounded.real (unrounded.ideal_calorific (whole Hm) (D k)) (unrounded.Z k))

  calorific : (Hm : ℕ) → heat_low ≤ Hm → Hm ≤ heat_high → Calorific Hm
  calorific Hm low high =
      let ideal = ideal_calorific_high_lem Hm (D k) high D-low in
      record {
        low = real_low _ (Z k) Z-low Z-high calorific_low (ideal_calorific_low Hm (D k) low (omega (arith, D-low)) D-high);
        high = real_high _ (Z k) Z-low calorific_high (omega (arith, ideal));
        within = real_of _ _ _ (calorific_near Hm (D k) (omega (arith, D-low))) (omega (arith, ideal));
      }

  superior_calorific : Calorific (HmSuperior k)
  superior_calorific = calorific _ superior_bounds.0 superior_bounds.1

  inferior_calorific : Calorific (HmInferior k)
  inferior_calorific = calorific _ inferior_bounds.0 inferior_bounds.1

  mass_ideal : ideal_density (M k) (D k) ≤ ideal_high
  mass_ideal = ideal_density_high (M k) (D k) mass_high_lem D-low

  relative_ideal : G k ≤ ideal_relative_high
  unfolding G
  relative_ideal = ideal_relative_high_lem (M k) (A k) mass_high_lem A-high

  rho_within : Within (whole 2) (rho k) (unrounded.rho k)
  unfolding rho
  rho_within = real_of _ _ _ (density_near (M k) (D k) (omega (arith, D-low))) mass_ideal

  d_within : Within (whole 2) (d k) (unrounded.d k)
  unfolding d G
  d_within = real_of _ _ _ (relative_near (M k) (A k)) (omega (arith, relative_ideal))

  -- bounds of the properties
  pub Hs-high : Hs k ≤ calorific_high
  unfolding Hs
  Hs-high = superior_calorific.high

  pub Hi-high : Hi k ≤ calorific_high
  unfolding Hi
  Hi-high = inferior_calorific.high

  Hi-below : Hi k ≤ Hs k
  unfolding Hi Hs
  Hi-below =
      let ideal = near_monotone _ _ (D k) (omega (arith, D-low)) (mul-le-mul_right 1013250 heats_ordered) in
      near_monotone _ _ (Z k) (omega (arith, Z-low)) (mul-le-mul_right (10 ^ 9) ideal)

  rho_high : rho k ≤ density_bound
  unfolding rho
  rho_high = real_high _ (Z k) Z-low density_bound (omega (arith, mass_ideal))

  rho_low : density_low ≤ rho k
  unfolding rho
  rho_low = real_low _ (Z k) Z-low Z-high density_low (ideal_density_low (M k) (D k) mass_low_lem (omega (arith, D-low)) D-high)

  pub d_high : d k ≤ relative_bound
  unfolding d
  d_high = real_high _ (Z k) Z-low relative_bound (omega (arith, relative_ideal))

  pub d_low : relative_low ≤ d k
  unfolding d G
  d_low = real_low _ (Z k) Z-low Z-high relative_low (ideal_relative_low (M k) (A k) mass_low_lem A-low)

  Hs-by-d : Hs k ≤ 2 * d k + 1
  unfolding Hs d G
  Hs-by-d = real_by_real (ideal_calorific (HmSuperior k) (D k)) (G k) (Z k) Z-low (ideal_by_relative (HmSuperior k) (M k) (D k) (A k) superior_bounds.2 D-low A-low (ideal_relative_low (M k) (A k) mass_low_lem A-low))

  W-high : W k ≤ wobbe_bound
  unfolding W r
  W-high = wobbe_high (d k) d_low d_high (Hs k) Hs-by-d

  W-low : wobbe_low ≤ W k
  unfolding W r Hs
  W-low = wobbe_low_lem (d k) d_low d_high (Hs k) superior_calorific.low

  r_low : root_low ≤ r k
  unfolding r
  r_low = root_low_lem (d k) d_low d_high

  W-by-r : 5 * W k ≤ r k + 30
  unfolding W r
  W-by-r = wobbe_by_root (d k) d_low d_high (Hs k) Hs-by-d

  -- W is within t, for a t that is large enough beside r and W; 41 is how far 2 units of d may move r
  indexed_by : (t : ℕ) → 4 * 10 ^ 9 + 2 * (42 * W k) + 2 * (t * 41) + r k ≤ 2 * (t * r k) → t ≤ wobbe_low → Indexed t (W k) (unrounded.Hs k) (unrounded.d k)
  unfolding W r Hs
  indexed_by t room small =
      let low = root_low_lem (d k) d_low d_high in
      indexed 41 t (Hs k) _ _ (d k) _ _ _ _ superior_calorific.within d_within (root_of_lem (d k) d_low d_high) (wobbe_near (d k) d_low d_high (Hs k))
      (omega (arith, low)) room (omega (arith, W-low)) (omega (arith, low))

  W-within : Indexed (wobbe_distance (in_class k.lines k.fractions)) (W k) (unrounded.Hs k) (unrounded.d k)
  W-within =
      cond_both (in_class k.lines k.fractions) (wobbe_distance true) (wobbe_distance false) (λ (t : ℕ). Indexed t (W k) (unrounded.Hs k) (unrounded.d k))
      (λ e. indexed_by (wobbe_distance true) (omega (arith, r_low, W-by-r)) (omega arith))
      (λ e. indexed_by (wobbe_distance false) (omega (arith, r_low, W-by-r)) (omega arith))

  bounded : Bounded (six_of k)
  unfolding Hs Hi
  bounded =
      record {
        Z = Z-high;
        Hs = omega (arith, Hs-high);
        Hi = omega (arith, Hi-high);
        rho = rho_high;
        d = d_high;
        W = W-high;
      }

  floored : Floored (six_of k)
  unfolding Hs Hi
  floored = record { Z = Z-low; Hs = superior_calorific.low; Hi = inferior_calorific.low; rho = rho_low; d = d_low; W = W-low }

  index : W k ≡ wobbe (Hs k) (root_of (d k))
  unfolding W r
  index = refl

  pub proper : Proper (six_of k)
  proper = record { floored = floored; bounded = bounded; order = Hi-below; index = index }

  pub density_by_air : DensityByAir k.metering (six_of k)
  unfolding D T A
  density_by_air =
      let law = by_mass (unrounded.M k) (unrounded.Z k) in
      by_air_lem (10132500 * 289626000) (D k * A k) _ (d k) (rho k) (near_half _ _ (omega (arith, mul-le-mul D-low A-low)))
      _ (near_half _ _ (omega arith)) (air_density_high_lem k.metering) d_high
      (law 10132500 (A k) (D k) 289626000 _ _ rho_within d_within)
      (law (A k) 10132500 289626000 (D k) _ _ d_within rho_within)

  pub distances : Distances k (six_of k)
  unfolding Hs Hi
  distances = record { Z = Z-within; Hs = superior_calorific.within; Hi = inferior_calorific.within; rho = rho_within; d = d_within; W = W-within }

  -- the values per kilogram
  pub mass_pos : 0 < M k
  mass_pos = omega (arith, mass_low_lem)

  per_kilogram_within : (Hm : ℕ) → Within per_kilogram_distance (per_kilogram Hm (M k)) (unrounded_per_kilogram (whole Hm) (unrounded.M k))
  per_kilogram_within Hm =
      let h = near_half (Hm * 1000000) (M k) mass_pos in
      record { proper = (omega (arith, mass_pos), omega arith); below = omega (arith, h.below); above = omega (arith, h.above) }

  per_kilogram_shown : (bs : List ℕ) → reading_of bs ≡ accepted k → PerKilogramShown bs k (mass_basis_of k)
  per_kilogram_shown bs e =
      record {
        answer = ap (mapped mass_basis_of) e;
        superior_bounded = per_kilogram_high mass_pos superior_bounds.2;
        inferior_bounded = per_kilogram_high mass_pos inferior_bounds.2;
        order = near_monotone _ _ (M k) mass_pos (mul-le-mul_right 1000000 heats_ordered);
        superior_within = per_kilogram_within (HmSuperior k);
        inferior_within = per_kilogram_within (HmInferior k);
      }

  greatest : Root (r k) (d k * 10 ^ 10)
  unfolding r
  greatest = root_of_lem (d k) d_low d_high

pub every_accepted_record : EveryAcceptedRecord
every_accepted_record bs k e =
    let a = accepted_is_acceptable bs k e in
    record {
      answer = ap (mapped six_of) e;
      amounts = amounts k a;
      squares = squares k a;
      root = greatest k a;
      proper = proper k a;
      air = density_by_air k a;
      within = distances k a;
      per_kilogram = per_kilogram_shown k a bs e;
    }

-- a value per kilogram is made of the combustion temperature, the lines and the fractions
same_values : (combustion m n : ℕ) (ls xs : List ℕ) → mass_basis_of (contents combustion m ls xs) ≡ mass_basis_of (contents combustion n ls xs)
unfolding HmSuperior HmInferior M
same_values combustion m n ls xs = refl

pub metering_does_not_matter : MeteringDoesNotMatter
metering_does_not_matter bs cs combustion m n ls xs eb ec =
    ap (mapped mass_basis_of) eb ∙ ap accepted (same_values combustion m n ls xs) ∙ sym (ap (mapped mass_basis_of) ec)
