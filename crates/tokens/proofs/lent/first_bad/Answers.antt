use borrow.Author.Rules.{rules}
use Rattle.tokens.proofs.LentLaws.{bad-on, bad-found, bad-none}
use Rattle.tokens.proofs.lent.first_bad.Goals as goal

pub returns-then-not-is_good-clause-first : goal.returns-then-not-is_good-clause-first
returns-then-not-is_good-clause-first c = search bad-found

pub loop-i-preserved : goal.loop-i-preserved
loop-i-preserved c = search bad-on

pub returns-clause-first : goal.returns-clause-first
returns-clause-first c = bad-none _ _ _ _ c.loop-i.invariant (search rules)
