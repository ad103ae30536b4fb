use Rattle.std.proofs.lemmas.Result.{err_from_is_err_and}
use borrow.Author.Rules.{rules}
use Rattle.judging.proofs.WholeLaws.{both-args, both-deep}
use Rattle.judging.proofs.whole.judge_both.Goals as goal

pub returns-in_err-args : goal.returns-in_err-args
returns-in_err-args c = search (rules, both-args)

pub returns-in_err-deep : goal.returns-in_err-deep
returns-in_err-deep c =
    let p = err_from_is_err_and c.from_residual-in_err-deep.result c.from_residual-in_err-deep.ensures.1 in
    rw (p.1, p.2) (search (both-deep, c.in_ok-judge_args.ensures, c.in_ok-args.was, c.in_err-deep.was))
