use Rattle.std.proofs.Common.{sym, ◌∙◌}
use Rattle.std.proofs.lemmas.Result.{err_from_is_err_and}
use Rattle.gasday.proofs.Readings.{one_more, goes_on, none_left, wrong_with_all}
use Rattle.gasday.proofs.volumes.Volumes.take_all.Goals as goal

pub returns-in_err-take : goal.returns-in_err-take
returns-in_err-take g c =
    let p = err_from_is_err_and c.from_residual.result c.from_residual.ensures.1 in
    rw (p.1, p.2) (wrong_with_all _ _ _ _ _ c.in_err-take.field-0.0 (sym (one_more _ _ _ c.loop-byte-test.true) ∙ c.loop-byte.invariant) c.in_err-take.ensures)

pub loop-byte-preserved : goal.loop-byte-preserved
loop-byte-preserved g c = goes_on _ _ _ _ _ c.loop-byte-test.true c.in_ok-take.ensures c.loop-byte.invariant

pub returns : goal.returns
returns g c = sym (none_left _ _ _ c.loop-byte-test.false) ∙ c.loop-byte.invariant
