use Rattle.tokens.specs.Token.{is_rparen}
use Rattle.tokens.specs.Input.{peek}
use Rattle.steps.proofs.ReadLaws.{plain_row}
use Rattle.parser.specs.Defs.{parse_attr_kind}
use Rattle.parser.proofs.attrs.attr_kind_row.Goals as goal

pub returns-clause-reads : goal.returns-clause-reads
returns-clause-reads c = plain_row (λ s i. is_rparen (peek s i)) parse_attr_kind c.parse_row.ensures.reads
