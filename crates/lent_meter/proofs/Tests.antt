-- The tests of properties, of a gas, and of a register at a volume.
use mathlib.Core.Path.{◌≡◌, refl, sym, ap, ◌∙◌}
use mathlib.Core.Bool.{Bool, true, false, ◌&&◌, ◌||◌}
use Prim.Native.Nat.{ℕ, ◌+◌, ◌*◌, ◌/◌, ◌%◌, ◌≤◌, ◌<◌}
use native.Mathlib.Nat.{mul-le-mul_right, div-add-mod', mod-lt}
use native.Mathlib.Omega.{arith}
use borrow.Author.Tests.{eqb-true, eqb-false, eq-eqb, ltb-true, ltb-false, leb-true, leb-false, le-leb}
use lib.Dec.{eqb, leb, ltb}
use Rattle.records.specs.Conditions.{permitted}
use Rattle.std.proofs.lemmas.Bool.{and_parts}
use Rattle.properties.specs.Chain.{Six, wobbe, root_of}
use Rattle.properties.specs.Bounds.{Floored, Proper, DensityByAir}
use Rattle.properties.specs.Quantities.{Bounded}
use Rattle.properties.specs.Answers.{numbers}
use Rattle.meter.specs.declared.Gas.{Gas}
use Rattle.meter.specs.declared.Register.{Register}
use Rattle.meter.specs.declared.StreamTotals.{StreamTotals}
use Rattle.meter.specs.State.{most_total, per_mj, nothing_booked, amount_in, SoundRegister, SoundEnergy, SoundMass, SoundTotals, SoundGas}
use Rattle.meter.specs.Calls.{booked}
use Rattle.meter.proofs.Registers.{amount_booked}
use Rattle.lent_meter.specs.Check.{Tells, RegisterUnit, between, within_ranges, at_most}
use Rattle.lent_meter.proofs.Telling.{tells_true, tells_false, untold}

-- the properties
between_only : (a x b : ℕ) → between a x b ≡ true → (a ≤ x) × (x ≤ b)
between_only a x b e = let z = and_parts _ _ e in (leb-true a x z.0, leb-true x b z.1)

between_always : (a x b : ℕ) → a ≤ x → x ≤ b → between a x b ≡ true
between_always a x b low high = rw (le-leb a x low, le-leb x b high)

pub ranges_hold : (p : Six) → Tells (within_ranges p) (Floored p × Bounded p)
ranges_hold p =
    record {
      only = λ y.
          let w = and_parts _ _ y in
          let d = and_parts _ _ w.0 in
          let r = and_parts _ _ d.0 in
          let i = and_parts _ _ r.0 in
          let s = and_parts _ _ i.0 in
          let Z = between_only _ p.Z _ s.0 in
          let Hs = between_only _ p.Hs _ s.1 in
          let Hi = between_only _ p.Hi _ i.1 in
          let rho = between_only _ p.rho _ r.1 in
          let dd = between_only _ p.d _ d.1 in
          let W = between_only _ p.W _ w.1 in (
            record { Z = Z.0; Hs = Hs.0; Hi = Hi.0; rho = rho.0; d = dd.0; W = W.0 },
            record { Z = Z.1; Hs = Hs.1; Hi = Hi.1; rho = rho.1; d = dd.1; W = W.1 },
          );
      always = λ h.
          let f = h.0 in
          let b = h.1 in
          rw (between_always _ _ _ f.Z b.Z, between_always _ _ _ f.Hs b.Hs, between_always _ _ _ f.Hi b.Hi, between_always _ _ _ f.rho b.rho, between_always _ _ _ f.d b.d, between_always _ _ _ f.W b.W);
    }

-- within their ranges, from the tests of the order and of the index
pub properties_hold : (p : Six) → within_ranges p ≡ true → Tells (leb p.Hi p.Hs && eqb p.W (wobbe p.Hs (root_of p.d))) (Proper p)
properties_hold p within =
    let r = (ranges_hold p).only within in
    record {
      only = λ y. let z = and_parts _ _ y in record { floored = r.0; bounded = r.1; order = leb-true _ _ z.0; index = eqb-true _ _ z.1 };
      always = λ q. rw (le-leb _ _ q.order, eq-eqb _ _ q.index);
    }

-- a gas, from the test of its density
pub gas_holds : (gas : Gas) {b : Bool} → permitted gas.pair.combustion gas.pair.metering ≡ true → Proper (numbers gas.properties) →
    Tells b (DensityByAir gas.pair.metering (numbers gas.properties)) → Tells b (SoundGas gas)
gas_holds gas pair properties t =
    record { only = λ y. record { pair = pair; properties = properties; air = t.only y }; always = λ s. t.always s.air }

-- volume × value by the two digits of the volume: `high` is the first one times the value, and `share` the unit without the base
module _ (u v x : ℕ) (unit : RegisterUnit u) where
  abbrev share : ℕ
  share = u / 1000000

  abbrev high : ℕ
  high = v / 1000000 * x

  abbrev before : Register
  before = record { whole = high / share; rest = high % share * 1000000 }

  unit_is : share * 1000000 ≡ u
  unit_is = omega (arith, unit.parts)

  -- both digits together, in the unit of the rest
  digits : amount_in u before + v % 1000000 * x ≡ amount_in u nothing_booked + v * x
  digits =
      let first : high / share * share + high % share ≡ high = div-add-mod' high share in
      let second : v / 1000000 * 1000000 + v % 1000000 ≡ v = div-add-mod' v 1000000 in
      let a : high / share * u ≡ high / share * share * 1000000 = omega (arith, ap (λ (n : ℕ). high / share * n) unit_is) in
      let b : v * x ≡ (v / 1000000 * 1000000 + v % 1000000) * x = ap (λ (n : ℕ). n * x) (sym second) in
      omega (arith, a, b, ap (λ (n : ℕ). n * 1000000) first)

  pub product_is : booked u before (v % 1000000 * x) ≡ booked u nothing_booked (v * x)
  product_is = ap (λ (n : ℕ). record { whole = n / u; rest = n % u }) digits

-- one register beside another, each with its rest below one whole
module _ (u : ℕ) (e most : Register) (below : e.rest < u) (whole : most.rest < u) where
  amount_at_most : Tells (at_most e most) (amount_in u e ≤ amount_in u most)
  amount_at_most = go (ltb e.whole most.whole) (eqb e.whole most.whole) (leb e.rest most.rest) refl refl refl
    where
      more : {a b : ℕ} → a < b → a * u + u ≤ b * u
      more {a} h = omega (arith, mul-le-mul_right u h)

      equal : eqb e.whole most.whole ≡ true → e.whole * u ≡ most.whole * u
      equal i = ap (λ (n : ℕ). n * u) (eqb-true e.whole most.whole i)

      go : (lower same least : Bool) → ltb e.whole most.whole ≡ lower → eqb e.whole most.whole ≡ same → leb e.rest most.rest ≡ least →
          Tells (lower || (same && least)) (amount_in u e ≤ amount_in u most)
      go true same least h i j = tells_true (omega (arith, more (ltb-true e.whole most.whole h)))
      go false true true h i j = tells_true (omega (arith, equal i, leb-true e.rest most.rest j))
      go false true false h i j = tells_false (λ l. omega (arith, equal i, leb-false e.rest most.rest j, l))
      go false false least h i j =
          let above : most.whole < e.whole = omega (arith, eqb-false e.whole most.whole i, ltb-false e.whole most.whole h) in
          tells_false (λ l. omega (arith, more above, l))

-- one bound of a register of a volume, which `product` has made
module _ (u v x : ℕ) (some : 0 < u) (bound : Register) (is : bound ≡ booked u nothing_booked (v * x)) where
  bound_amount : amount_in u bound ≡ v * x
  bound_amount = ap (amount_in u) is ∙ amount_booked u some nothing_booked (v * x) ∙ omega arith

  bound_rest : bound.rest < u
  bound_rest = rw is (mod-lt (amount_in u nothing_booked + v * x) some)

pub register_holds : (u floor ceiling v : ℕ) (e least most : Register) → 0 < u → least ≡ booked u nothing_booked (v * floor) → most ≡ booked u nothing_booked (v * ceiling) →
    Tells (ltb e.rest u && at_most least e && at_most e most) (SoundRegister u floor ceiling v e)
register_holds u floor ceiling v e least most some low high = go (ltb e.rest u) refl
  where
    go : (b : Bool) → ltb e.rest u ≡ b → Tells (b && at_most least e && at_most e most) (SoundRegister u floor ceiling v e)
    go true h =
        let rest = ltb-true e.rest u h in
        let l = bound_amount u v floor some least low in
        let m = bound_amount u v ceiling some most high in
        let below = amount_at_most u least e (bound_rest u v floor some least low) rest in
        let above = amount_at_most u e most rest (bound_rest u v ceiling some most high) in
        record {
          only = λ y. let z = and_parts (at_most least e) (at_most e most) y in record { rest = rest; least = omega (arith, below.only z.0, l); most = omega (arith, above.only z.1, m) };
          always = λ s. rw (below.always (omega (arith, s.least, l)), above.always (omega (arith, s.most, m)));
        }
    go false h = tells_false (λ s. omega (arith, ltb-false e.rest u h, s.rest))

-- totals, from the test of each register
pub totals_hold : (t : StreamTotals) (s i m : Bool) → t.volume ≤ most_total → Tells s (SoundEnergy t.volume t.superior) → Tells i (SoundEnergy t.volume t.inferior) →
    Tells m (SoundMass t.volume t.mass) → Tells (s && i && m && at_most t.inferior t.superior) (SoundTotals t)
totals_hold t true true true low h g w =
    let order = amount_at_most per_mj t.inferior t.superior (g.only refl).rest (h.only refl).rest in
    record {
      only = λ y. record { volume = low; superior = h.only refl; inferior = g.only refl; order = order.only y; mass = w.only refl };
      always = λ s. order.always s.order;
    }
totals_hold t false i m low h g w = tells_false (λ s. untold h refl s.superior)
totals_hold t true false m low h g w = tells_false (λ s. untold g refl s.inferior)
totals_hold t true true false low h g w = tells_false (λ s. untold w refl s.mass)
