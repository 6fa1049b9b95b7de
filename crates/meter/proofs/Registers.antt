-- A register, u units of whose rest make one whole: what is booked is added to its amount, and its rest stays below one whole.
use mathlib.Core.Path.{◌≡◌, sym, ap, ◌∙◌}
use Prim.Native.Nat.{ℕ, ◌+◌, ◌*◌, ◌/◌, ◌%◌, ◌≤◌, ◌<◌}
use native.Mathlib.Nat.{add_comm, add-mul-div_right, add-mul-mod_self_right, div-add-mod', mod-lt, mul-le-mul_left, lt_of_mul-lt-mul_right}
use native.Mathlib.Omega.{arith}
use Rattle.meter.specs.declared.Register.{Register}
use Rattle.meter.specs.State.{amount_in, SoundRegister}
use Rattle.meter.specs.Calls.{booked}

module _ (u : ℕ) (p : 0 < u) where
  -- the carry from the rest to the whole part
  pub carried : (e : Register) (n : ℕ) → ◌≡◌ {A = Register} (record { whole = e.whole + (e.rest + n) / u; rest = (e.rest + n) % u }) (booked u e n)
  carried e n =
      let sum : e.rest + n + e.whole * u ≡ amount_in u e + n = omega arith in
      let whole : e.whole + (e.rest + n) / u ≡ (amount_in u e + n) / u =
      add_comm e.whole ((e.rest + n) / u) ∙ sym (add-mul-div_right (e.rest + n) e.whole p) ∙ ap (λ (x : ℕ). x / u) sum in
      let rest : (e.rest + n) % u ≡ (amount_in u e + n) % u =
      sym (add-mul-mod_self_right (e.rest + n) e.whole u) ∙ ap (λ (x : ℕ). x % u) sum in
      λ i. record { whole = whole i; rest = rest i }

  pub amount_booked : (e : Register) (n : ℕ) → amount_in u (booked u e n) ≡ amount_in u e + n
  amount_booked e n = div-add-mod' (amount_in u e + n) u

  -- a volume w at a value x
  pub sound_booked : (floor ceiling v w x : ℕ) (e : Register) → SoundRegister u floor ceiling v e → floor ≤ x → x ≤ ceiling →
      SoundRegister u floor ceiling (v + w) (booked u e (w * x))
  sound_booked floor ceiling v w x e s low high =
      let is = amount_booked e (w * x) in
      record {
        rest = mod-lt (amount_in u e + w * x) p;
        least = omega (arith, is, s.least, mul-le-mul_left w low);
        most = omega (arith, is, s.most, mul-le-mul_left w high);
      }

  -- a register that holds no more than another, with a volume w at a value x no more than the other's y
  pub booked_at_most : (w : ℕ) {x y : ℕ} (e f : Register) → amount_in u e ≤ amount_in u f → x ≤ y → amount_in u (booked u e (w * x)) ≤ amount_in u (booked u f (w * y))
  booked_at_most w {x} {y} e f h low = omega (arith, amount_booked e (w * x), amount_booked f (w * y), mul-le-mul_left w low)

  -- its whole part is below n, where the most that it comes to is below n wholes
  pub whole_below : (n floor ceiling v : ℕ) (e : Register) → SoundRegister u floor ceiling v e → v * ceiling < n * u → e.whole < n
  whole_below n floor ceiling v e s most = lt_of_mul-lt-mul_right u (omega (arith, s.most))
