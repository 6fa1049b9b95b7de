-- Each block and its volume are counted; with no volume more, or no block more, the day is over.
use Rattle.std.proofs.Common.{arith, length}
use Rattle.std.proofs.lemmas.List.{drop_more, drop_all}
use Rattle.day_file.specs.Format.{blocks_of}
use Rattle.meter.specs.Calls.{stream_analysis, stream_metering}
use Rattle.meter.specs.Days.{stream_day}
use Rattle.meter.proofs.Daily.{no_blocks, no_volumes, at_first, counts_fit, one_taken, over}
use Rattle.meter.proofs.Stream.day.Goals as goal

pub loop-volume-init : goal.loop-volume-init
loop-volume-init c =
    at_first stream_analysis stream_metering _ _ _ _ _ c.default-counts.result c.default-counts.ensures.0 c.default-counts.ensures.1 (rw c.blocks-blocks.ensures)
    (omega arith)

pub overflow_add-counts : goal.overflow_add-counts
overflow_add-counts c =
    let one = drop_more c.args.volumes.now c.loop-volume.volume-index 0 (omega arith) in
    omega (arith, counts_fit stream_analysis stream_metering _ _ c.loop-volume.invariant c.in-Some.ensures.steps one c.block-taken.ensures)

pub overflow_add-counts-in-loop-volume : goal.overflow_add-counts-in-loop-volume
overflow_add-counts-in-loop-volume c =
    let one = drop_more c.args.volumes.now c.loop-volume.volume-index 0 (omega arith) in
    omega (arith, counts_fit stream_analysis stream_metering _ _ c.loop-volume.invariant c.in-Some.ensures.steps one c.block-taken.ensures)

pub loop-volume-preserved : goal.loop-volume-preserved
loop-volume-preserved c =
    let one = drop_more c.args.volumes.now c.loop-volume.volume-index 0 (omega arith) in
    one_taken stream_analysis stream_metering _ _ c.loop-volume.invariant c.in-Some.ensures.steps one c.block-taken.ensures

pub returns-after-loop-volume : goal.returns-after-loop-volume
returns-after-loop-volume c =
    let vs = c.args.volumes.now in
    let all = stream_day c.args.self.now (blocks_of c.args.day.now.file.now) vs in
    over stream_analysis stream_metering all (length vs) c.loop-volume.invariant
    (no_volumes stream_analysis stream_metering _ _ (drop_all c.loop-volume.volume-index vs (omega arith)))

pub returns-in_default : goal.returns-in_default
returns-in_default c =
    let vs = c.args.volumes.now in
    let all = stream_day c.args.self.now (blocks_of c.args.day.now.file.now) vs in
    over stream_analysis stream_metering all (length vs) c.loop-volume.invariant
    (no_blocks stream_analysis stream_metering _ _ c.in_default.ensures.steps.0)
