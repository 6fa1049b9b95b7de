-- The blocks counted and those still to come are those of the file, and what is left over is the same; each turn leaves fewer bytes.
use Rattle.day_file.proofs.Counting.{Counted}
use Rattle.std.proofs.Common.{length}
use Rattle.day_file.proofs.blocks.DayFile.new.Given as goal

abbrev pub invariant-loop-after : goal.invariant-loop-after
invariant-loop-after l = Counted l.fn.file l.count l.rest

abbrev pub decreases-loop-after : goal.decreases-loop-after
decreases-loop-after l = length l.rest
