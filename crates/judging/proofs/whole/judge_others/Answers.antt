use Rattle.std.proofs.lemmas.Result.{err_from_is_err_and}
use Rattle.judging.proofs.WholeLaws.{others-many, table_is, others_flawed, others-fine}
use Rattle.judging.proofs.whole.judge_others.Goals as goal

pub returns-in_err-n : goal.returns-in_err-n
returns-in_err-n c =
    let p = err_from_is_err_and c.from_residual.result c.from_residual.ensures.1 in
    rw (p.1, p.2) (search (others-many, c.in_err-n.ensures))

pub judge_definitions-requires : goal.judge_definitions-requires
judge_definitions-requires c = search (table_is, c.in_ok-n.ensures)

pub returns-in_err-judge_definitions : goal.returns-in_err-judge_definitions
returns-in_err-judge_definitions c =
    let p = err_from_is_err_and c.from_residual-in_err-judge_definitions.result c.from_residual-in_err-judge_definitions.ensures.1 in
    rw (p.1, p.2) (search (others_flawed, c.in_ok-n.ensures, c.in_err-judge_definitions.ensures))

pub returns : goal.returns
returns c = search (others-fine, c.in_ok-n.ensures, c.in_ok-judge_definitions.ensures)
