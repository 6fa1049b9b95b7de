-- The record's number, 14, or the row with the record's gas.
use Rattle.records.specs.declared.pair.Pair.{Pair}
use mathlib.Core.Path.{refl, sym, ap, ◌∙◌}
use native.Mathlib.Omega.{arith}
use Rattle.meter.specs.Calls.{analysed}
use Rattle.lent_meter.specs.Words.{packed_stream}
use Rattle.lent_meter.proofs.Outcomes.{number_refuses}
use Rattle.lent_meter.proofs.Rows.{record_refused, record_accepted}
use Rattle.lent_meter.proofs.analysis_row.Goals as goal

pub returns-in_err-accepted-clause-on_row : goal.returns-in_err-accepted-clause-on_row
returns-in_err-accepted-clause-on_row c s sound holds =
    record_refused s holds c.args.bytes.now c.from_residual.result c.in_err-accepted.field-0.0 c.from_residual.ensures.1 c.in_err-accepted.ensures.number

pub returns-then-pair_differs-clause-on_row : goal.returns-then-pair_differs-clause-on_row
returns-then-pair_differs-clause-on_row c s sound holds =
    let bytes = c.args.bytes.now in
    let e = c.in_ok-accepted.ensures in
    number_refuses packed_stream (analysed s bytes) _
    (record_accepted s holds bytes (ap (λ (p : Pair). p.combustion) (rw e.same at c.pair-pair.ensures)) (ap (λ (p : Pair). p.metering) (rw e.same at c.pair-pair.ensures)) (sym e.number) (sym c.pair_differs.ensures ∙ c.if-pair_differs.true))
    (λ z. omega arith) refl
