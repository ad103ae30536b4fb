use Rattle.records.specs.Slots.{rec_at}
use Rattle.records.proofs.rec_at.Goals as goal

pub returns : goal.returns
unfolding rec_at
returns c = cc
