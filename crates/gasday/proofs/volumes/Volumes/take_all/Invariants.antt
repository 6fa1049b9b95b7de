-- The bytes that are left make of what has been read what all of them make of what had been read at first.
use Rattle.std.proofs.Common.{◌≡◌, drop}
use Rattle.gasday.specs.Text.{with_bytes}
use Rattle.gasday.specs.Read.{read_of}
use Rattle.gasday.proofs.volumes.Volumes.take_all.Given as goal

abbrev pub invariant-loop-byte : goal.invariant-loop-byte
invariant-loop-byte g l = with_bytes (read_of l.self) (drop l.byte-index l.bytes) ≡ with_bytes (read_of l.fn.self) l.bytes
