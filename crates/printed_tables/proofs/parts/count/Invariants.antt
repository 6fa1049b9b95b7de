-- After k turns the counts are those of the first k figures.
use Rattle.std.proofs.Common.{◌≡◌}
use Rattle.printed_tables.specs.Counts.{counts_of}
use Rattle.printed_tables.proofs.parts.count.Given as goal

abbrev pub invariant-loop-k : goal.invariant-loop-k
invariant-loop-k g l = l.counts ≡ counts_of l.initial.counts g.P.Part.printed (g.P.Part.calculated l.part) l.k
