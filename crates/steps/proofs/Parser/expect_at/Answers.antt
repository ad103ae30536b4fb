use Rattle.tokens.specs.Token.{is_kind, is_at}
use Rattle.steps.proofs.Parser.expect_at.Goals as goal

pub returns-clause-reads : goal.returns-clause-reads
unfolding is_kind is_at
returns-clause-reads c = c.expect_kind.ensures.reads
