-- The record in the buffer, or the buffer as it was.
use mathlib.Core.Path.{refl}
use lib.ListN.{length}
use Rattle.records.specs.Format.{contents, bytes_of, placed}
use Rattle.records.specs.Conditions.{given_order, room_order}
use Rattle.records.proofs.OrderLaws.{gives_refused, some_number, stops, passes}
use Rattle.records.proofs.write.Goals as goal

pub returns-in_err-entries : goal.returns-in_err-entries
returns-in_err-entries c =
    let a = c.args in
    let k = contents a.pair.combustion a.pair.metering a.lines.now a.fractions.now in
    let e = c.in_err-entries.field-0.0 in
    gives_refused _ e (placed a.out.now 0 (bytes_of k)) a.out.now c.from_residual.ensures.1
    (stops (given_order k) (room_order (length a.out.now) (length a.lines.now)) c.in_err-entries.ensures.number (some_number e))

pub returns-in_err-check_room : goal.returns-in_err-check_room
returns-in_err-check_room c =
    let a = c.args in
    let k = contents a.pair.combustion a.pair.metering a.lines.now a.fractions.now in
    gives_refused _ c.in_err-check_room.field-0.0 (placed a.out.now 0 (bytes_of k)) a.out.now c.from_residual-in_err-check_room.ensures.1
    (passes (given_order k) (room_order (length a.out.now) (length a.lines.now)) tt c.in_ok-entries.ensures.number refl c.in_err-check_room.ensures)
