use Rattle.opening.proofs.AnswerLaws.{last_asked}
use Rattle.opening.proofs.whole.open_last.Goals as goal

pub open_pattern-requires : goal.open_pattern-requires
open_pattern-requires c = search last_asked
