-- 0 everywhere, or an analysis with its totals.
use mathlib.Core.Path.{◌≡◌, sym, ap, ◌∙◌}
use mathlib.Core.List.{List}
use Prim.Native.Nat.{ℕ}
use native.Mathlib.Omega.{arith}
use lib.ListN.{length, replicate}
use Rattle.lent_meter.specs.Words.{row_length}
use Rattle.lent_meter.proofs.Telling.{tells_true, untold}
use Rattle.lent_meter.proofs.Holding.{blank_holds, row_holds}
use Rattle.lent_meter.proofs.held.holds_stream.Goals as goal

-- a row of zeros, by its length
zeros : (row : List ℕ) → length row ≡ row_length → ◌≡◌ {A = List ℕ} (replicate (length row) 0) (replicate row_length 0)
zeros row long = ap (λ (n : ℕ). replicate n 0) long

pub returns-then-all_zero : goal.returns-then-all_zero
returns-then-all_zero c =
    let row = c.args.row.now in
    tells_true (blank_holds row (c.all_zero.ensures.only c.if-all_zero.true ∙ zeros row (omega arith)))

pub returns : goal.returns
returns c =
    let row = c.args.row.now in
    let long : length row ≡ row_length = omega arith in
    row_holds row long (λ h. untold c.all_zero.ensures c.if-all_zero.false (h ∙ sym (zeros row long))) c.holds_gas.ensures c.holds_totals.ensures
