-- One block more is counted; what is left over after the last is what 23 asks for.
use mathlib.Core.Path.{sym}
use Rattle.std.proofs.Common.{arith}
use Rattle.std.proofs.lemmas.Grind.{common_steps}
use Rattle.day_file.proofs.Splits.{front_some, front_none}
use Rattle.day_file.proofs.Counting.{one_more, counted_all}
use Rattle.day_file.proofs.blocks.DayFile.new.Goals as goal

pub loop-after-preserved : goal.loop-after-preserved
loop-after-preserved c = one_more _ c.loop-after.invariant (front_some _ _ _ c.in-Some.ensures)

pub returns-then-not-is_empty-clause-number : goal.returns-then-not-is_empty-clause-number
returns-then-not-is_empty-clause-number c =
    let all = counted_all _ c.loop-after.invariant (front_none c.loop-after.rest.now c.in_default.ensures) in
    grind (arith, common_steps)

pub invariant_of-result : goal.invariant_of-result
invariant_of-result c =
    let all = counted_all _ c.loop-after.invariant (front_none c.loop-after.rest.now c.in_default.ensures) in
    record { accepted = grind (arith, common_steps); counted = sym all.0 }
