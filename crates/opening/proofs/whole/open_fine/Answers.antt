use Rattle.std.proofs.Common.{rules}
use Rattle.opening.proofs.AnswerLaws.{done-after}
use Rattle.opening.proofs.whole.open_fine.Goals as goal

pub returns-clause-answered : goal.returns-clause-answered
returns-clause-answered c = done-after _ _ _ _ _ _ _ _ _ _ _ c.open_store.ensures.done c.in_ok-y.y (search rules) _ _ _ c.open_last.ensures.answered
