use Rattle.steps.proofs.ReadLaws.{next_yes, next_no}
use Rattle.parser.specs.Types.{parse_type_variant}
use Rattle.parser.proofs.types.parse_type_variant.Goals as goal

pub returns-then-is_symbol-clause-reads : goal.returns-then-is_symbol-clause-reads
unfolding parse_type_variant
returns-then-is_symbol-clause-reads c = next_yes _ _ c.next_token.ensures c.is_symbol.ensures c.if-is_symbol.true (c.variant_unit.ensures.reads)

pub returns-clause-reads : goal.returns-clause-reads
unfolding parse_type_variant
returns-clause-reads c = next_no _ _ c.next_token.ensures c.is_symbol.ensures c.if-is_symbol.false (c.variant_parens.ensures.reads)
