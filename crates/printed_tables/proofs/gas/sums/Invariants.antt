-- The loop keeps the sums of the entries before the k-th, and has those from it on left.
use Rattle.std.proofs.Common.{◌≡◌, length, drop}
use Rattle.components.proofs.Summing.{Four}
use Rattle.printed_tables.specs.Gas.{gas}
use Rattle.printed_tables.proofs.gas.sums.Given as goal

abbrev pub invariant-loop-line : goal.invariant-loop-line
invariant-loop-line l =
    let k = length l.yielded in
    Four 2 1 gas.lines gas.fractions l.sums.superior l.sums.inferior l.sums.mass l.sums.summation k
    × (l.line-iterator.a.rest.now ≡ drop k gas.lines)
    × (l.line-iterator.b.rest.now ≡ drop k gas.fractions)
