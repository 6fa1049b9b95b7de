-- What is counted, with what the stream takes of the blocks and volumes that are left, is the whole day.
use Rattle.std.proofs.Common.{length, drop}
use Rattle.day_file.specs.Format.{split_all, blocks_of}
use Rattle.meter.specs.Calls.{stream_analysis, stream_metering}
use Rattle.meter.specs.Days.{stream_day}
use Rattle.meter.proofs.Daily.{Taken}
use Rattle.meter.proofs.Stream.day.Given as goal

abbrev pub invariant-loop-volume : goal.invariant-loop-volume
invariant-loop-volume l =
    Taken stream_analysis stream_metering (stream_day l.fn.self (blocks_of l.fn.day.file.now) l.fn.volumes) (length l.fn.volumes) l.counts l.self
    (split_all l.blocks.rest.now).blocks (drop l.volume-index l.volumes)
