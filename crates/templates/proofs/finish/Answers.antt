use Rattle.templates.proofs.AnswerLaws.{finish_refused, finish_accepted}
use Rattle.templates.proofs.finish.Goals as goal

pub returns-in_default : goal.returns-in_default
returns-in_default c = finish_refused _ _ _ _ c.clear.ensures c.number.ensures c.in_default.not-Ok

pub returns : goal.returns
returns c = search finish_accepted
