use Rattle.opening.proofs.EndsLaws.{childed_anew}
use Rattle.opening.proofs.ends.Forest.child_at.Goals as goal

pub hop-requires : goal.hop-requires
hop-requires c = search childed_anew
