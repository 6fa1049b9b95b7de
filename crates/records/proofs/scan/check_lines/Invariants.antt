use Rattle.records.proofs.Scans.{Ascended}
use Rattle.records.proofs.scan.check_lines.Given as goal

abbrev pub invariant-loop-k : goal.invariant-loop-k
invariant-loop-k g l = Ascended (g.E.Entries.lines l.entries) l.before l.k
