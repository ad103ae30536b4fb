use Rattle.judging.proofs.ExtractorLaws.{again_flawed, again_fine, again-nowhere}
use Rattle.judging.proofs.calls.Callable.judge_again.Goals as goal

pub returns-in_default : goal.returns-in_default
returns-in_default c = search again-nowhere

pub returns-then-x-self : goal.returns-then-x-self
returns-then-x-self c = search again_flawed

pub returns : goal.returns
returns c = search again_fine
