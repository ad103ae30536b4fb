use Rattle.templating.proofs.CallLaws.{stops}
use Rattle.templating.proofs.refuse.Goals as goal

pub returns : goal.returns
returns c = search stops
