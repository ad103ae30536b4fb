use Rattle.std.proofs.lemmas.Result.{err_from_is_err_and}
use borrow.Author.Rules.{rules}
use Rattle.judging.proofs.ExtractorLaws.{kids-there, by_again, by_calls}
use Rattle.judging.proofs.calls.Callable.judge_extractor.Goals as goal

pub returns-in_err-judge_again : goal.returns-in_err-judge_again
returns-in_err-judge_again c =
    let p = err_from_is_err_and c.from_residual.result c.from_residual.ensures.1 in
    rw (p.1, p.2) (search (by_again, c.in_err-judge_again.ensures))

pub judge_calls-requires : goal.judge_calls-requires
judge_calls-requires c = search (rules, kids-there)

pub returns : goal.returns
returns c = search (by_calls, c.in_ok-judge_again.ensures)
