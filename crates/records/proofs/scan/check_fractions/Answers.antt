-- The search keeps what is noted of the entries passed.
use mathlib.Core.Path.{sym, ◌∙◌}
use native.Mathlib.Omega.{arith}
use Rattle.records.proofs.Scans.{zero_here, next_noted, all_noted}
use Rattle.records.proofs.scan.check_fractions.Goals as goal

pub loop-k-preserved : goal.loop-k-preserved
loop-k-preserved g c =
    let same = g.met.E.Entries.same c.args.entries.now in
    let w = c.with-scan.ensures in
    let x = c.fraction-fraction.ensures in
    rw (w.sum, w.methane, w.class, w.outside, w.inside, w.water, c.line.ensures, x)
    (next_noted c.loop-k.invariant (omega (arith, c.len-k-end.ensures)) (omega (arith, c.len-k-end.ensures, same)) (rw x at c.if-fraction-eq0.false) (omega (arith, x)))

pub returns-then-fraction-eq0 : goal.returns-then-fraction-eq0
returns-then-fraction-eq0 g c =
    let same = g.met.E.Entries.same c.args.entries.now in
    zero_here c.loop-k.invariant (omega (arith, c.len-k-end.ensures)) (omega (arith, c.len-k-end.ensures, same)) (sym c.fraction-fraction.ensures ∙ c.if-fraction-eq0.true)

pub returns-after-loop-k : goal.returns-after-loop-k
returns-after-loop-k g c =
    let same = g.met.E.Entries.same c.args.entries.now in
    all_noted c.loop-k.invariant (omega (arith, c.len-k-end.ensures)) (omega (arith, c.len-k-end.ensures, same)) c.check.ensures
