-- The block at the front comes, and those after it are left.
use Rattle.std.proofs.Common.{arith}
use Rattle.std.proofs.lemmas.Grind.{common_steps}
use Rattle.day_file.proofs.Splits.{front_some, front_none, blocks_ended, blocks_begun}
use Rattle.day_file.proofs.blocks.BlocksIterator.next.Goals as goal

pub returns-in_err-block-clause-steps : goal.returns-in_err-block-clause-steps
returns-in_err-block-clause-steps c =
    let none = blocks_ended c.args.self.now.rest.now (front_none c.args.self.now.rest.now (c.in_err-block.ensures)) in
    grind (arith, common_steps)

pub returns-clause-steps : goal.returns-clause-steps
returns-clause-steps c =
    let bs = c.args.self.now.rest.now in
    blocks_begun bs c.in_ok-block.block.now c.in_ok-block.rest.now (front_some bs _ _ c.in_ok-block.ensures)

pub returns-clause-goes : goal.returns-clause-goes
returns-clause-goes c =
    let bs = c.args.self.now.rest.now in
    let one = blocks_begun bs c.in_ok-block.block.now c.in_ok-block.rest.now (front_some bs _ _ c.in_ok-block.ensures) in
    grind (arith, common_steps)
