use Rattle.std.proofs.Common.{arith}
use Rattle.templates.proofs.FillLaws.{fill_turn, fill_stop, fill_end}
use Rattle.std.proofs.lemmas.Result.{err_from_is_err_and}
use Rattle.templates.proofs.substituting.Patterns.fill.Goals as goal

pub returns-in_err-append_filled : goal.returns-in_err-append_filled
returns-in_err-append_filled c =
    let p = err_from_is_err_and c.from_residual.result c.from_residual.ensures.1 in
    rw (p.1, p.2) (fill_stop _ _ _ _ _ _ _ _ c.in_err-append_filled.ensures c.loop-i.invariant (omega arith))

pub loop-i-preserved : goal.loop-i-preserved
loop-i-preserved c = fill_turn _ _ _ _ _ _ _ c.in_ok-append_filled.ensures c.loop-i.invariant (omega arith)

pub returns : goal.returns
returns c = fill_end _ _ _ _ _ _ c.loop-i.invariant (omega arith) c.loop-i.out.within
