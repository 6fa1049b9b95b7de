-- The line number stands where the record's entry begins.
use native.Mathlib.Omega.{arith}
use Rattle.records.proofs.EntryLaws.{line_here, within}
use Rattle.records.proofs.record.RecordEntriesEntries.line.Goals as goal

pub record_length-requires : goal.record_length-requires
record_length-requires c = (within c.args.self.now.bytes.now c.args.k c.args.self.now.few c.args.self.now.whole c.requires).few

pub bounds-self-record_length : goal.bounds-self-record_length
bounds-self-record_length c = let w = within c.args.self.now.bytes.now c.args.k c.args.self.now.few c.args.self.now.whole c.requires in omega (arith, c.record_length.ensures, w.held)

pub returns : goal.returns
returns c =
    let w = within c.args.self.now.bytes.now c.args.k c.args.self.now.few c.args.self.now.whole c.requires in
    rw c.record_length.ensures (line_here c.args.self.now.bytes.now c.args.k w.counted)
