-- The numbers in the record's order.
use mathlib.Core.Path.{refl, ◌∙◌}
use Rattle.records.specs.Format.{lines_in, fractions_in}
use Rattle.records.specs.Conditions.{head_order, content_order}
use Rattle.records.proofs.OrderLaws.{number_passed, some_number, stops, passes}
use Rattle.records.proofs.record.Record.new.Goals as goal

pub returns-in_err-check_head-clause-number : goal.returns-in_err-check_head-clause-number
returns-in_err-check_head-clause-number c =
    let b = c.args.bytes.now in
    let e = c.in_err-check_head.field-0.0 in
    number_passed _ e c.from_residual.ensures.1 ∙ stops (head_order b) (content_order (lines_in b) (fractions_in b)) c.in_err-check_head.ensures (some_number e)

pub returns-in_err-check_entries-clause-number : goal.returns-in_err-check_entries-clause-number
returns-in_err-check_entries-clause-number c =
    let b = c.args.bytes.now in
    number_passed _ c.in_err-check_entries.field-0.0 c.from_residual-in_err-check_entries.ensures.1
    ∙ passes (head_order b) (content_order (lines_in b) (fractions_in b)) tt c.in_ok-check_head.ensures refl c.in_err-check_entries.ensures
