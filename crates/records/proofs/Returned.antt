-- What a number and lent memory return, from the refusal of a call.
use mathlib.Core.Path.{◌≡◌, ap, ◌∙◌}
use Prim.Native.Nat.{ℕ}
use Rattle.records.specs.Order.{Outcome, refused, otherwise}
use Rattle.records.specs.Answers.{number_of, Returns}

pub refusal : {A : Type 0} {outcome : Outcome A} (before : A) {number : ℕ} {after : A} {n : ℕ} → refused n ≡ outcome → number ≡ n → after ≡ before
    → Returns outcome before number after
refusal before is n old = record { number_is = n ∙ ap number_of is; after_is = old ∙ ap (otherwise before) is }
