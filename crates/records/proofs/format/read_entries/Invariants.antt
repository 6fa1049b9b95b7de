use Rattle.std.proofs.Common.{◌≡◌}
use Rattle.records.proofs.EntryLaws.{filled}
use Rattle.records.proofs.format.read_entries.Given as goal

abbrev pub invariant-loop-k : goal.invariant-loop-k
invariant-loop-k g l = (l.lines ≡ filled (g.E.Entries.lines l.entries) l.k) × (l.fractions ≡ filled (g.E.Entries.fractions l.entries) l.k)
