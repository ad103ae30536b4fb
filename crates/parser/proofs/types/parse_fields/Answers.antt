use Rattle.steps.proofs.ReadLaws.{next_yes, next_no}
use Rattle.parser.specs.Types.{parse_struct_fields, parse_tuple_fields, parse_fields}
use Rattle.steps.specs.Outcome.{many}
use Rattle.parser.proofs.types.parse_fields.Goals as goal

pub returns-then-is_rparen-clause-reads : goal.returns-then-is_rparen-clause-reads
unfolding parse_fields parse_struct_fields parse_tuple_fields many
returns-then-is_rparen-clause-reads c = next_yes _ _ c.next_token-t.ensures c.is_rparen.ensures c.if-is_rparen.true (c.unit_fields.ensures.reads)

pub returns-then-is_lparen-clause-reads : goal.returns-then-is_lparen-clause-reads
unfolding parse_fields parse_struct_fields parse_tuple_fields many
returns-then-is_lparen-clause-reads c = next_no _ _ c.next_token-t.ensures c.is_rparen.ensures c.if-is_rparen.false (next_yes _ _ c.next_token-t.ensures c.is_lparen.ensures c.if-is_lparen.true (c.fields.ensures.reads))

pub returns-clause-reads : goal.returns-clause-reads
unfolding parse_fields parse_struct_fields parse_tuple_fields many
returns-clause-reads c = next_no _ _ c.next_token-t.ensures c.is_rparen.ensures c.if-is_rparen.false (next_no _ _ c.next_token-t.ensures c.is_lparen.ensures c.if-is_lparen.false (c.fields-2.ensures.reads))
