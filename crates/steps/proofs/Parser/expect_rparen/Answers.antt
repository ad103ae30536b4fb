use Rattle.tokens.specs.Token.{is_kind, is_rparen}
use Rattle.steps.proofs.Parser.expect_rparen.Goals as goal

pub returns-clause-reads : goal.returns-clause-reads
unfolding is_kind is_rparen
returns-clause-reads c = c.expect_kind.ensures.reads
