use Rattle.records.proofs.Scans.{Noted}
use Rattle.records.proofs.scan.check_fractions.Given as goal

abbrev pub invariant-loop-k : goal.invariant-loop-k
invariant-loop-k g l = Noted (g.E.Entries.lines l.entries) (g.E.Entries.fractions l.entries) l.scan.sum l.scan.methane l.scan.class l.scan.above_outside l.scan.above_inside l.scan.water l.k
