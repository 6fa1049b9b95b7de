-- The record's number, 14, or the stream with the record's gas.
use mathlib.Core.Path.{sym, ap, ◌∙◌}
use Rattle.records.specs.declared.pair.Pair.{Pair}
use Rattle.meter.proofs.Analyses.{record_refused, pair_refused, sound_with}
use Rattle.meter.proofs.Stream.analysis.Goals as goal

pub returns-in_err-accepted : goal.returns-in_err-accepted
returns-in_err-accepted c =
    record_refused c.args.self.now c.args.bytes.now _ c.in_err-accepted.field-0.0 c.from_residual.ensures.1 c.in_err-accepted.ensures.number

pub returns-then-pair_differs : goal.returns-then-pair_differs
returns-then-pair_differs c =
    let e = c.in_ok-accepted.ensures in
    let pair = rw e.same at c.pair-pair.ensures in
    pair_refused c.args.self.now c.args.bytes.now e.number (ap (λ (p : Pair). p.combustion) pair) (ap (λ (p : Pair). p.metering) pair)
    (sym c.if-pair_differs.true ∙ c.pair_differs.ensures)

pub invariant_of-self : goal.invariant_of-self
invariant_of-self c =
    let e = c.in_ok-accepted.ensures in
    let pair = rw e.same at c.pair-pair.ensures in
    sound_with c.args.bytes.now e.number c.properties_in-properties.result (ap (λ (p : Pair). p.combustion) pair) (ap (λ (p : Pair). p.metering) pair)
    (rw e.same at c.properties_in-properties.ensures) c.self.invariant.totals
