-- The means of both energies, read from the contracts of the functions that give them.
use mathlib.Core.Path.{◌≡◌}
use Prim.Native.Nat.{ℕ, ◌≤◌}
use contract.Lifetimes.{Lfts}
use denote.Ref.{Bor, MutBor}
use Rattle.records.specs.Order.{Outcome, accepted}
use Rattle.properties.specs.Quantities.{calorific_bound}
use Rattle.meter.specs.declared.Register.{Register}
use Rattle.meter.specs.declared.StreamTotals.{StreamTotals}
use Rattle.meter.specs.declared.Meter.{Meter}
use Rattle.meter.specs.State.{Sound, stream_at}
use Rattle.meter.specs.Calls.{mean_reading}
use Rattle.meter.specs.Answers.{mean_meaning}
use Rattle.meter.proofs.Kept.{no_mean_above_ceiling}
use Rattle.lent_meter.specs.Lent.{Lent, OnReading}
use Rattle.tally.specs.Tally.{Energy, superior, inferior}
use Rattle.tally.specs.Run.{MeanAnswer, MeanReturns}
use Rattle.tally.specs.LentRun.{Words, MeanAsked, MeanGave}

abbrev pub register_of : Energy → StreamTotals → Register
register_of superior t = t.superior
register_of inferior t = t.inferior

-- the reading of a mean
abbrev pub mean_for : Energy → ℕ → Meter → Outcome ℕ
mean_for e k m = mean_reading k (stream_at m k) (register_of e (stream_at m k).totals)

-- what holds of each of the two
pub for_both : (P : Energy → Type 0) → P superior → P inferior → (e : Energy) → P e
for_both P s i superior = s
for_both P s i inferior = i

module _ (κs : Lfts 1) (w : Bor Meter) (k : ℕ) where
  pub mean_found : (e : Energy) (r : MeanAnswer) → MeanReturns e κs w k r → mean_meaning r ≡ mean_for e k w.now
  mean_found superior r got = got tt
  mean_found inferior r got = got tt

  pub mean_returned : (e : Energy) (r : MeanAnswer) → mean_meaning r ≡ mean_for e k w.now → MeanReturns e κs w k r
  mean_returned superior r is = λ p. is
  mean_returned inferior r is = λ p. is

module _ (m : Meter) (k : ℕ) where
  pub mean_at_most : (e : Energy) (h : ℕ) → Sound m → mean_for e k m ≡ accepted h → h ≤ calorific_bound
  mean_at_most superior h = no_mean_above_ceiling.superior m k h
  mean_at_most inferior h = no_mean_above_ceiling.inferior m k h

-- the same of the exported functions on lent words
module _ (κs : Lfts 2) (w : Bor Words) (k : ℕ) (h : MutBor ℕ) where
  pub lent_mean_asked : (e : Energy) → Lent w.now → MeanAsked e κs w k h
  lent_mean_asked superior l = l
  lent_mean_asked inferior l = l

  pub lent_mean_found : (e : Energy) (n : ℕ) (h₁ : MutBor ℕ) → MeanGave e κs w k h n h₁ → Lent w.now → OnReading (λ (x : ℕ). x) (mean_for e k) w.now h.now n h₁.now
  lent_mean_found superior n h₁ gave l = gave l
  lent_mean_found inferior n h₁ gave l = gave l

  pub lent_mean_gave : (e : Energy) (n : ℕ) (h₁ : MutBor ℕ) → OnReading (λ (x : ℕ). x) (mean_for e k) w.now h.now n h₁.now → MeanGave e κs w k h n h₁
  lent_mean_gave superior n h₁ on = λ p. on
  lent_mean_gave inferior n h₁ on = λ p. on
