-- A stream of the meter beside what the tally keeps for it: where they are alike, a call tries the same conditions on both, answers
-- alike, and leaves them alike.
use mathlib.Core.Path.{◌≡◌, refl, sym, ap, subst, ◌∙◌}
use mathlib.Core.Bool.{true≢false}
use mathlib.Core.List.{List}
use mathlib.Core.Option.{Option, none, some}
use Prim.Native.Nat.{ℕ, ◌+◌, ◌*◌, ◌<◌}
use native.Mathlib.Nat.{mod-lt}
use native.Mathlib.Omega.{arith}
use lib.Arith.{digits_div, digits_mod}
use Rattle.rounding.specs.Fraction.{Fraction, whole, plus, times, Within}
use Rattle.rounding.proofs.FractionLaws.{within_plus, within_times}
use Rattle.records.specs.Order.{first_of}
use Rattle.records.specs.Format.{combustion_in, metering_in, contents_in}
use Rattle.records.proofs.Accepted.{acceptable}
use Rattle.properties.specs.Chain.{Six, six_of}
use Rattle.properties.specs.Unrounded as unrounded
use Rattle.properties.specs.Answers.{numbers}
use Rattle.properties.proofs.Gas.{distances}
use Rattle.properties.proofs.Outcomes.{accepted_reading, clear_of_accepted}
use Rattle.std.specs.Prelude.{Option as InForce, Some}
use Rattle.meter.specs.declared.Gas.{Gas}
use Rattle.meter.specs.declared.Register.{Register}
use Rattle.meter.specs.declared.Stream.{Stream}
use Rattle.meter.specs.State.{amount_in}
use Rattle.meter.specs.Conditions.{pair_differs, no_analysis, analysis_order, metering_order, mean_order}
use Rattle.meter.specs.Calls.{gas_of, analysed, booked, with_volume, metered, mean_in}
use Rattle.meter.proofs.Registers.{amount_booked}
use Rattle.meter.proofs.Orders.{clear_analysis, clear_metering}
use Rattle.tally.specs.Tally.{per_mj, per_kg, Energy, superior, inferior, analysis, metering, totals, mean, mean_is, Account, parts_of, grown, StreamTally, account_of, other_pair, no_record, order_of, metered_by, left_by, given_by}
use Rattle.tally.specs.Run.{parts_given, totals_given}
use Rattle.tally.specs.Demand.{AccountWithin, SameInForce, nothing, known}
use Rattle.tally.proofs.Energies.{register_of, for_both}

-- the pair of a record in force
abbrev pair_of : Option (List ℕ) → Option (ℕ × ℕ)
pair_of none = none
pair_of (some bs) = some (combustion_in bs, metering_in bs)

-- a register with u units of its rest to one whole, beside an account at the volume v
pub record AlikeRegister (u v : ℕ) (e : Register) (a : Account) : Type 0 where
  pub rest : e.rest < u
  pub amount : amount_in u e ≡ a.booked
  pub within : AccountWithin v a

abbrev pub AlikeEnergy : Stream → StreamTally → Energy → Type 0
AlikeEnergy s l e = AlikeRegister per_mj l.volume (register_of e s.totals) (account_of e l)

pub record Alike (s : Stream) (l : StreamTally) : Type 0 where
  pub in_force : SameInForce s.analysis l.in_force
  pub pair : l.pair ≡ pair_of l.in_force
  pub volume : s.totals.volume ≡ l.volume
  pub energy : (e : Energy) → AlikeEnergy s l e
  pub mass : AlikeRegister per_kg l.volume s.totals.mass l.mass

-- a volume w at a value n that is the record's h, which is x unrounded
register_grows : (u v w : ℕ) {n h : ℕ} (x : Fraction) (e : Register) (a : Account) → 0 < u → n ≡ h → Within (whole 2) h x → AlikeRegister u v e a →
    AlikeRegister u (v + w) (booked u e (w * n)) (grown w h x a)
register_grows u v w {n} {h} x e a p is near alike =
    rw is
    (record {
      rest = mod-lt (amount_in u e + w * h) p;
      amount = amount_booked u p e (w * h) ∙ ap (λ (n : ℕ). n + w * h) alike.amount;
      within =
          subst (λ (t : ℕ). Within (whole t) (a.booked + w * h) (plus a.exact (times w x))) (omega arith)
          (within_plus (2 * v) (w * 2) a.booked (w * h) a.exact (times w x) alike.within (within_times w 2 h x near));
    })

-- the two parts
parts_alike : (u v : ℕ) (e : Register) (a : Account) → AlikeRegister u v e a → parts_given e ≡ parts_of u a
parts_alike u v e a h = cc (digits_div e.whole h.rest, digits_mod e.whole h.rest, h.amount)

-- the same conditions
same_pair : {i : InForce Gas} {o : Option (List ℕ)} → SameInForce i o → (c m : ℕ) → pair_differs i c m ≡ other_pair (pair_of o) c m
same_pair nothing c m = refl
same_pair (known bs gas ec em e) c m = rw (ec, em)

same_none : {i : InForce Gas} {o : Option (List ℕ)} → SameInForce i o → no_analysis i ≡ no_record o
same_none nothing = refl
same_none (known bs gas ec em e) = refl

module _ (s : Stream) (l : StreamTally) (h : Alike s l) (k : ℕ) where
  pub analysis_order_lem : (bs : List ℕ) → analysis_order k bs s ≡ order_of k (analysis bs) l
  analysis_order_lem bs = rw (same_pair h.in_force (combustion_in bs) (metering_in bs), sym h.pair)

  pub metering_order_lem : (v : ℕ) → metering_order k v s ≡ order_of k (metering v) l
  metering_order_lem v = rw (same_none h.in_force, h.volume)

  pub mean_order_lem : (e : Energy) → mean_order k s ≡ order_of k (mean e) l
  mean_order_lem e = rw h.volume

  -- an accepted analysis
  pub analysis_alike : (bs : List ℕ) → first_of (analysis_order k bs s) ≡ 0 → Alike (analysed s bs) (left_by (analysis bs) l)
  analysis_alike bs z =
      record {
        in_force = known bs (gas_of bs) refl refl (accepted_reading six_of bs (clear_analysis k bs s z).clear);
        pair = refl;
        volume = h.volume;
        energy = for_both (AlikeEnergy (analysed s bs) (left_by (analysis bs) l)) (h.energy superior) (h.energy inferior);
        mass = h.mass;
      }

  -- an accepted volume
  pub metering_alike : (v : ℕ) → first_of (metering_order k v s) ≡ 0 → Alike (metered s v) (left_by (metering v) l)
  metering_alike v z = go refl h.in_force
    where
      grows : (e : Energy) {n f : ℕ} (x : Fraction) → n ≡ f → Within (whole 2) f x →
          AlikeRegister per_mj (l.volume + v) (booked per_mj (register_of e s.totals) (v * n)) (grown v f x (account_of e l))
      grows e x is near = register_grows per_mj l.volume v x (register_of e s.totals) (account_of e l) (omega arith) is near (h.energy e)

      go : {i : InForce Gas} {o : Option (List ℕ)} → s.analysis ≡ i → SameInForce i o → Alike (with_volume i v s) (metered_by o v l)
      go ei nothing = elim (true≢false (sym (ap no_analysis ei) ∙ (clear_metering k v s z).analysed)) [ ]
      go ei (known bs gas ec em e) =
          let found = clear_of_accepted six_of bs (numbers gas.properties) e in
          let near = distances (contents_in bs) (acceptable bs found.0) in
          record {
            in_force = h.in_force;
            pair = h.pair;
            volume = ap (λ (n : ℕ). n + v) h.volume;
            energy =
                for_both (AlikeEnergy (with_volume (Some gas) v s) (metered_by (some bs) v l))
                (grows superior (unrounded.Hs (contents_in bs)) (sym (ap (λ (p : Six). p.Hs) found.1)) near.Hs)
                (grows inferior (unrounded.Hi (contents_in bs)) (sym (ap (λ (p : Six). p.Hi) found.1)) near.Hi);
            mass =
                register_grows per_kg l.volume v (unrounded.rho (contents_in bs)) s.totals.mass l.mass (omega arith) (sym (ap (λ (p : Six). p.rho) found.1))
                near.rho h.mass;
          }

-- the same readings
module _ (s : Stream) (l : StreamTally) (h : Alike s l) where
  pub totals_alike : totals_given s.totals ≡ given_by totals l
  totals_alike = cc (h.volume, parts superior, parts inferior, parts_alike per_kg l.volume s.totals.mass l.mass h.mass)
    where
      parts : (e : Energy) → parts_given (register_of e s.totals) ≡ parts_of per_mj (account_of e l)
      parts e = parts_alike per_mj l.volume (register_of e s.totals) (account_of e l) (h.energy e)

  pub mean_alike : (e : Energy) → mean_is (mean_in (register_of e s.totals) s.totals.volume) ≡ given_by (mean e) l
  mean_alike e = cc ((h.energy e).amount, h.volume)
