use Rattle.openings.proofs.Theorem.{worth}
use Rattle.isle.proofs.isle_open.Goals as goal

pub returns : goal.returns
returns c = record { answer = c.open.ensures; meaning = worth _ _ _ _ _ _ c.open.ensures }
