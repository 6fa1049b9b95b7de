-- What a test tells.
use mathlib.Core.Path.{◌≡◌, refl, sym, ◌∙◌}
use mathlib.Core.Bool.{Bool, true, false, true≢false}
use Rattle.lent_meter.specs.Check.{Tells}

-- what is told by true, and by false
pub tells_true : {P : Type 0} → P → Tells true P
tells_true p = record { only = λ e. p; always = λ q. refl }

pub tells_false : {P : Type 0} → (P → ⊥) → Tells false P
tells_false h = record { only = λ e. elim (true≢false (sym e)) [ ]; always = λ q. elim (h q) [ ] }

pub untold : {P : Type 0} {b : Bool} → Tells b P → b ≡ false → P → ⊥
untold t e p = true≢false (sym (t.always p) ∙ e)
