use Rattle.forms.proofs.DepthTurns.{settle_stop, settle_more, settle_end}
use Rattle.forms.proofs.depth.Levels.settled.Goals as goal

pub returns-then-self-d-ne0-clause-left : goal.returns-then-self-d-ne0-clause-left
returns-then-self-d-ne0-clause-left c = search settle_stop

pub loop-d-preserved : goal.loop-d-preserved
loop-d-preserved c = search settle_more

pub returns-clause-left : goal.returns-clause-left
returns-clause-left c = search settle_end
