use Rattle.opening.proofs.AnswerLaws.{work_asked}
use borrow.Author.Rules.{rules}
use Rattle.opening.proofs.whole.open_judged.Goals as goal

pub open_fine-requires : goal.open_fine-requires
open_fine-requires c = search (rules, work_asked)
