-- The contents of an accepted record in the two arrays.
use Rattle.records.proofs.Heads.{few_lines}
use Rattle.records.proofs.Reading.{reads}
use Rattle.records.proofs.read.Goals as goal

pub read_entries-requires-clause-few : goal.read_entries-requires-clause-few
read_entries-requires-clause-few c = rw c.entries.ensures (few_lines c.in_ok-record.record.bytes.now c.in_ok-record.record.accepted)

pub returns : goal.returns
returns c =
    let n = c.in_ok-record.ensures.number in
    let r = c.in_ok-record.ensures.same in
    let e = c.read_entries.ensures in
    rw (c.pair.ensures, c.count.ensures.0, c.head.ensures, r)
    (reads c.args.bytes.now _ _ (rw (c.entries.ensures, r) at e.0) (rw (c.entries.ensures, r) at e.1) n)
