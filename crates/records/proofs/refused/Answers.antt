use Rattle.records.specs.Result.{refused}
use borrow.Author.Rules.{rules}
use Rattle.records.proofs.refused.Goals as goal

pub returns : goal.returns
unfolding refused
returns c = search rules
