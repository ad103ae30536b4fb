use Rattle.tokens.specs.Token.{is_rparen}
use Rattle.tokens.specs.Input.{peek}
use Rattle.steps.proofs.ReadLaws.{plain_row}
use Rattle.parser.specs.Types.{parse_type_variant}
use Rattle.parser.proofs.types.EnumPart.parse.Goals as goal

pub returns-clause-reads : goal.returns-clause-reads
returns-clause-reads c = plain_row (λ s i. is_rparen (peek s i)) parse_type_variant c.parse_row.ensures.reads
