use Rattle.judging.proofs.CallLaws.{number-none, number-later, number-fine, number-wrong}
use Rattle.judging.proofs.calls.Callable.judge_number.Goals as goal

pub returns-in_default : goal.returns-in_default
returns-in_default c = search number-none

pub returns-then-x-self : goal.returns-then-x-self
returns-then-x-self c = search number-later

pub returns-then-self-x : goal.returns-then-self-x
returns-then-self-x c = search number-fine

pub returns : goal.returns
returns c = search number-wrong
