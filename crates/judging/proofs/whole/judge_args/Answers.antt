use Rattle.judging.proofs.WholeLaws.{args_judged}
use Rattle.judging.proofs.whole.judge_args.Goals as goal

pub returns : goal.returns
returns c = search args_judged
