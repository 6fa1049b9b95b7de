-- The loop keeps that the first k entries stand in the buffer, and every other byte as it was.
use mathlib.Core.Path.{refl, sym, ◌∙◌}
use native.Mathlib.Omega.{arith}
use Rattle.records.specs.Format.{entries_at}
use Rattle.records.proofs.EntryLaws.{none_written, next_written}
use Rattle.records.proofs.format.put_entries.Goals as goal

pub loop-k-init : goal.loop-k-init
loop-k-init g c = (refl, none_written _ entries_at (g.E.Entries.lines c.args.entries.now) (g.E.Entries.fractions c.args.entries.now))

pub loop-k-preserved : goal.loop-k-preserved
loop-k-preserved g c =
    let same = g.met.E.Entries.same c.args.entries.now in
    let a = c.args in
    let at = c.loop-k in (
      c.put_entry.auto.out ∙ at.invariant.0,
      c.put_entry.ensures ∙ rw (c.record_length.ensures, c.line.ensures, c.fraction.ensures) (next_written a.out.now at.out entries_at (g.E.Entries.lines a.entries.now) (g.E.Entries.fractions a.entries.now) at.k (omega (arith, c.len-k-end.ensures)) (sym same) (omega (arith, c.requires)) at.invariant.1),
    )
