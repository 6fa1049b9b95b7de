-- The loop keeps the four sums of the entries before i; the sums over the entries are those over all lines.
use mathlib.Core.Path.{refl, sym, ap, ◌∙◌}
use Prim.Native.Nat.{ℕ}
use native.Mathlib.Omega.{arith}
use Rattle.components.specs.Table.{superior, inferior, summation}
use Rattle.components.specs.Composition.{sum_of}
use Rattle.components.proofs.Summing.{sums_small, next_sums, all_sums}
use Rattle.records.specs.declared.pair.Pair.{Pair}
use Rattle.records.specs.Format.{contents_in}
use Rattle.records.proofs.Accepted.{acceptable}
use Rattle.properties.specs.Chain.{combustion_place, metering_place, HmSuperior, HmInferior, M, S}
use Rattle.properties.proofs.Gas.{amount_is, over_entries}
use Rattle.properties.proofs.sums.sums_of.Goals as goal

pub add-requires : goal.add-requires
add-requires c =
    let good = (acceptable c.args.accepted.now.bytes.now c.args.accepted.now.accepted).composition in
    let l = good.lines c.loop-i.i (omega (arith, rw c.entries-entries.ensures at c.len-i-end.ensures)) in
    let line = rw c.entries-entries.ensures at c.line.ensures in
    record { in_table = (rw line l.0, rw line l.1); room = sums_small c.loop-i.invariant good }

pub loop-i-preserved : goal.loop-i-preserved
loop-i-preserved c =
    let s = c.add.ensures in
    let l = rw c.entries-entries.ensures at c.line.ensures in
    let x = rw c.entries-entries.ensures at c.fraction.ensures in
    next_sums c.loop-i.invariant (acceptable c.args.accepted.now.bytes.now c.args.accepted.now.accepted).composition
    (omega (arith, rw c.entries-entries.ensures at c.len-i-end.ensures))
    (rw (l, x) at s.superior) (rw (l, x) at s.inferior) (rw (l, x) at s.mass) (rw (l, x) at s.summation)

pub returns : goal.returns
unfolding HmSuperior HmInferior M S
returns c =
    let bs = c.args.accepted.now.bytes.now in
    let k = contents_in bs in
    let a = acceptable bs c.args.accepted.now.accepted in
    let t = c.combustion_of-combustion.ensures ∙ ap (λ (p : Pair). combustion_place p.combustion) c.pair-pair.ensures in
    let j = c.metering_of-metering.ensures ∙ ap (λ (p : Pair). metering_place p.metering) c.pair-pair.ensures in
    let e = all_sums c.loop-i.invariant (omega (arith, rw c.entries-entries.ensures at c.len-i-end.ensures)) in
    record {
      superior = amount_is k a (ap superior t) _ e.0;
      inferior = amount_is k a (ap inferior t) _ e.1.0;
      mass = amount_is k a refl _ e.1.1.0;
      summation = e.1.1.1 ∙ ap (λ (i : ℕ). sum_of (summation i) k.lines k.fractions) j ∙ sym (over_entries k a _);
    }
