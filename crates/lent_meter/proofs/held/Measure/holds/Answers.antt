-- The rest below one whole, and an amount from volume × floor to volume × ceiling.
use Rattle.lent_meter.proofs.Tests.{register_holds}
use Rattle.lent_meter.proofs.held.Measure.holds.Goals as goal

pub returns : goal.returns
returns c =
    let a = c.args in
    let u = a.self in
    rw (c.at_most.ensures, c.at_most-2.ensures)
    (register_holds u.unit u.floor u.ceiling a.volume a.register c.product.result c.product-2.result u.register_unit.some c.product.ensures c.product-2.ensures)
