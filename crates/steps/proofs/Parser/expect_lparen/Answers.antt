use Rattle.tokens.specs.Token.{is_kind, is_lparen}
use Rattle.steps.proofs.Parser.expect_lparen.Goals as goal

pub returns-clause-reads : goal.returns-clause-reads
unfolding is_kind is_lparen
returns-clause-reads c = c.expect_kind.ensures.reads
