use Rattle.opening.proofs.AnswerLaws.{pattern_able, pattern-done}
use borrow.Author.Rules.{rules}
use Rattle.opening.proofs.whole.open_pattern.Goals as goal

pub open_one-requires : goal.open_one-requires
open_one-requires c = search (rules, pattern_able)

pub returns : goal.returns
returns c = search pattern-done
