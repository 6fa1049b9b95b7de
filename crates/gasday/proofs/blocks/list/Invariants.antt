-- Each block is nearer to the file's end.
use Rattle.std.proofs.Common.{length, ◌-◌}
use Rattle.gasday.proofs.blocks.list.Given as goal

abbrev pub decreases-loop-next : goal.decreases-loop-next
decreases-loop-next g l = length l.file - l.offset
