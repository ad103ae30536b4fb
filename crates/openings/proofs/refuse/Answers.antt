use Rattle.openings.proofs.CallLaws.{stops}
use Rattle.openings.proofs.refuse.Goals as goal

pub returns : goal.returns
returns c = search stops
