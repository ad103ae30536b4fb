use Rattle.replay.proofs.AgreedLaws.{output_compared}
use Rattle.replay.proofs.output_cases.Lent.agrees.Goals as goal

pub returns : goal.returns
returns c = search output_compared
