use Rattle.std.proofs.lemmas.Result.{err_from_is_err_and}
use Rattle.judging.proofs.WholeLaws.{by_both, by_others, by_pattern, scanned_low}
use Rattle.judging.proofs.ShapeLaws.{pattern-there}
use borrow.Author.Rules.{rules}
use Rattle.judging.proofs.whole.judge_pattern.Goals as goal

pub returns-in_err-judge_both : goal.returns-in_err-judge_both
returns-in_err-judge_both c =
    let p = err_from_is_err_and c.from_residual.result c.from_residual.ensures.1 in
    rw (p.1, p.2) (search (by_both, c.in_err-judge_both.ensures))

pub returns-in_err-n : goal.returns-in_err-n
returns-in_err-n c =
    let p = err_from_is_err_and c.from_residual-in_err-n.result c.from_residual-in_err-n.ensures.1 in
    rw (p.1, p.2) (search (by_others, c.in_ok-judge_both.ensures, c.in_err-n.was))

pub judge_calls-calls-requires : goal.judge_calls-calls-requires
judge_calls-calls-requires c = search (rules, pattern-there)

pub after_list-requires : goal.after_list-requires
after_list-requires c = search (rules, scanned_low)

pub returns : goal.returns
returns c = search (by_pattern, c.in_ok-judge_both.ensures, c.in_ok-n.was)
