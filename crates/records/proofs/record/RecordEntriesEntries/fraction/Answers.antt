-- The fraction stands after the line number of the record's entry.
use mathlib.Core.Path.{◌∙◌}
use native.Mathlib.Omega.{arith}
use Rattle.records.proofs.EntryLaws.{fraction_here, within}
use Rattle.records.proofs.record.RecordEntriesEntries.fraction.Goals as goal

pub record_length-requires : goal.record_length-requires
record_length-requires c = (within c.args.self.now.bytes.now c.args.k c.args.self.now.few c.args.self.now.whole c.requires).few

pub number_4-requires : goal.number_4-requires
number_4-requires c = let w = within c.args.self.now.bytes.now c.args.k c.args.self.now.few c.args.self.now.whole c.requires in omega (arith, c.record_length.ensures, w.held)

pub returns : goal.returns
returns c =
    let w = within c.args.self.now.bytes.now c.args.k c.args.self.now.few c.args.self.now.whole c.requires in
    c.number_4.ensures ∙ rw c.record_length.ensures (fraction_here c.args.self.now.bytes.now c.args.k w.counted)
