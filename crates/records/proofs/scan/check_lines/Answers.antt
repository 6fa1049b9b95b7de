-- No line number passed breaks 7.
use mathlib.Core.Path.{sym, ◌∙◌}
use native.Mathlib.Omega.{arith}
use Rattle.records.proofs.Scans.{breaks_here, next_passed, all_passed}
use Rattle.records.proofs.scan.check_lines.Goals as goal

pub loop-k-preserved : goal.loop-k-preserved
loop-k-preserved g c =
    rw c.line-line.ensures
    (next_passed c.loop-k.invariant (omega (arith, c.len-k-end.ensures)) (rw c.line-line.ensures at (sym c.line_breaks.ensures ∙ c.if-line_breaks.false)))

pub returns-then-line_breaks : goal.returns-then-line_breaks
returns-then-line_breaks g c =
    breaks_here c.loop-k.invariant (omega (arith, c.len-k-end.ensures)) (rw c.line-line.ensures at (sym c.line_breaks.ensures ∙ c.if-line_breaks.true))

pub returns-after-loop-k : goal.returns-after-loop-k
returns-after-loop-k g c = all_passed c.loop-k.invariant (omega (arith, c.len-k-end.ensures))
