use Rattle.opening.proofs.AnswerLaws.{templates_asked, store-done}
use borrow.Author.Rules.{rules}
use Rattle.opening.proofs.whole.open_store.Goals as goal

pub open_templates-requires : goal.open_templates-requires
open_templates-requires c = search (rules, templates_asked)

pub returns : goal.returns
returns c = search (rules, store-done, c.open_templates.ensures)
