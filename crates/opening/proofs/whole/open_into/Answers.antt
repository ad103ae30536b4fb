use borrow.Author.Rules.{rules}
use Rattle.std.proofs.lemmas.Result.{err_from_is_err_and}
use Rattle.opening.proofs.AnswerLaws.{answer-refused, grounds-fine}
use Rattle.opening.proofs.whole.open_into.Goals as goal

pub returns-in_err-n : goal.returns-in_err-n
returns-in_err-n c =
    let p = err_from_is_err_and c.from_residual.result c.from_residual.ensures.1 in
    rw (p.1, p.2) (search (answer-refused, c.in_err-n.ensures))

pub open_judged-requires : goal.open_judged-requires
open_judged-requires c = search (rules, grounds-fine, c.in_ok-n.ensures)
