use Rattle.templates.proofs.MakeLaws.{copy_turn, copy_stop, arg_turn, arg_stop, after_later, make_end}
use Rattle.std.proofs.Common.{arith}
use Rattle.std.proofs.lemmas.Result.{err_from_is_err_and}
use Rattle.templates.proofs.making.Making.append.Goals as goal

pub returns-in_err-append-in-Some : goal.returns-in_err-append-in-Some
returns-in_err-append-in-Some c =
    let p = err_from_is_err_and c.from_residual.result c.from_residual.ensures.1 in
    rw (p.1, p.2) (arg_stop _ _ _ _ _ _ c.rec_at-r.ensures c.parameter_at.ensures (omega arith) _ _ _ c.loop-i.invariant _ _ _ _ c.in-Some.is c.argument.ensures c.in_err-append-in-Some.ensures.wrote)

pub loop-i-smaller-in-Some : goal.loop-i-smaller-in-Some
loop-i-smaller-in-Some c = omega (arith, after_later _ _ _ c.after_parameter-i.ensures)

pub loop-i-preserved-in-Some : goal.loop-i-preserved-in-Some
loop-i-preserved-in-Some c = arg_turn _ _ _ _ _ _ c.rec_at-r.ensures c.parameter_at.ensures (omega arith) _ _ _ c.loop-i.invariant _ _ _ _ c.in-Some.is c.after_parameter-i.ensures c.argument.ensures c.in_ok-append-in-Some.ensures.wrote

pub returns-in_err-append-in-None : goal.returns-in_err-append-in-None
returns-in_err-append-in-None c =
    let p = err_from_is_err_and c.from_residual-in_err-append-in-None.result c.from_residual-in_err-append-in-None.ensures.1 in
    rw (p.1, p.2) (copy_stop _ _ _ _ _ _ c.rec_at.ensures c.parameter_at.ensures (omega arith) _ _ _ c.loop-i.invariant _ _ c.in-None.is c.in_err-append-in-None.ensures.wrote)

pub loop-i-preserved : goal.loop-i-preserved
loop-i-preserved c = copy_turn _ _ _ _ _ _ c.rec_at.ensures c.parameter_at.ensures (omega arith) _ _ _ c.loop-i.invariant _ c.in-None.is c.in_ok-append-in-None.ensures.wrote

pub returns : goal.returns
returns c = make_end _ _ _ _ _ _ _ c.loop-i.invariant (omega arith) c.loop-i.out.within
