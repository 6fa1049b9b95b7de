use Rattle.std.proofs.Common.{◌≡◌, length}
use Rattle.records.specs.Format.{entries_at}
use Rattle.records.proofs.EntryLaws.{written}
use Rattle.records.proofs.format.put_entries.Given as goal

abbrev pub invariant-loop-k : goal.invariant-loop-k
invariant-loop-k g l = (length l.out ≡ length l.initial.out) × (l.out ≡ written l.initial.out entries_at (g.E.Entries.lines l.entries) (g.E.Entries.fractions l.entries) l.k)
