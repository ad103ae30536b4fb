use Rattle.reading.proofs.ReadLaws.{stops}
use Rattle.reading.proofs.refuse_on.Goals as goal

pub returns : goal.returns
returns c = search stops
