use Rattle.records.specs.Result.{accepted}
use borrow.Author.Rules.{rules}
use Rattle.records.proofs.accepted.Goals as goal

pub returns : goal.returns
unfolding accepted
returns c = search rules
