-- The loop keeps the sums of the entries that it has taken; the sums over the entries are those over all lines.
use Rattle.std.proofs.Common.{◌≡◌, ℕ, List, ◌∷◌, ◌++◌, [], ◌+◌, ◌<◌, length, drop, get_or, nat_abs, ap, sym, ◌∙◌, arith}
use Rattle.std.proofs.lemmas.Grind.{common_steps}
use Rattle.std.proofs.lemmas.List.{drop_more}
use Rattle.components.specs.Table.{component_table}
use Rattle.components.specs.Composition.{sum_of, over_lines, fraction_for}
use Rattle.components.proofs.Summing.{sums_small, next_sums, all_sums}
use Rattle.properties.specs.Chain.{HmSuperior, M, S}
use Rattle.printed_tables.specs.Gas.{gas}
use Rattle.printed_tables.proofs.GasLaws.{composition, line_in}
use Rattle.printed_tables.proofs.gas.sums.Goals as goal

-- the k-th and what is left after it
next_is : (k : ℕ) (xs : List ℕ) {x : ℕ} {rest : List ℕ} → drop k xs ≡ x ∷ rest → (k < length xs) × (x ≡ get_or xs k 0) × (rest ≡ drop (k + 1) xs)
next_is k xs e =
    let within : k < length xs = grind (arith, common_steps, e) in
    let more = drop_more xs k 0 within in
    (within, grind (arith, common_steps, e), grind (arith, common_steps, e, more))

pub add-requires : goal.add-requires
add-requires c =
    let k = length c.loop-line.yielded in
    let l = next_is k gas.lines (sym c.loop-line.invariant.1 ∙ c.in-Some.ensures.steps.0) in
    record { in_table = rw l.1 (line_in k l.0); room = sums_small c.loop-line.invariant.0 composition }

pub loop-line-preserved : goal.loop-line-preserved
loop-line-preserved c =
    let k = length c.loop-line.yielded in
    let s = c.in-Some.ensures.steps in
    let l = next_is k gas.lines (sym c.loop-line.invariant.1 ∙ s.0) in
    let x = next_is k gas.fractions (sym c.loop-line.invariant.2 ∙ s.1) in
    let e = c.add.ensures in
    let n : length (c.loop-line.yielded ++ (c.in-Some.line, c.in-Some.fraction) ∷ []) ≡ k + 1 = grind (arith, common_steps) in
    rw n (
      next_sums c.loop-line.invariant.0 composition l.0
          (rw (l.1, x.1) at e.superior) (rw (l.1, x.1) at e.inferior) (rw (l.1, x.1) at e.mass) (rw (l.1, x.1) at e.summation),
      l.2,
      x.2,
    )

pub returns : goal.returns
unfolding HmSuperior M S sum_of over_lines fraction_for component_table
returns c =
    let inv = c.loop-line.invariant in
    let s = c.in-None.ensures.steps in
    let e = all_sums inv.0 (grind (arith, common_steps)) in
    record { superior = ap nat_abs e.0; mass = ap nat_abs e.1.1.0; summation = e.1.1.1 }
