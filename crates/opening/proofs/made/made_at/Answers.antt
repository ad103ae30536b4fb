use Rattle.opening.proofs.MadeLaws.{made_plain, made-argument}
use Rattle.opening.proofs.made.made_at.Goals as goal

pub returns-in_default : goal.returns-in_default
returns-in_default c = search made_plain

pub returns : goal.returns
returns c = search made-argument
