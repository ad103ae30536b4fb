use Rattle.judging.proofs.WholeLaws.{deep_judged}
use Rattle.judging.proofs.whole.judge_deep.Goals as goal

pub returns : goal.returns
returns c = search deep_judged
