use Rattle.tokens.specs.Token.{is_rparen}
use Rattle.tokens.specs.Input.{peek}
use Rattle.steps.specs.Outcome.{parse_ident}
use Rattle.steps.proofs.ReadLaws.{plain_row}
use Rattle.steps.proofs.Parser.parse_idents.Goals as goal

pub returns-clause-reads : goal.returns-clause-reads
returns-clause-reads c = plain_row (λ s i. is_rparen (peek s i)) parse_ident c.parse_row.ensures.reads
