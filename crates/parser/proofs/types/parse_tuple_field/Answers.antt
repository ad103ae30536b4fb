use Rattle.steps.proofs.ReadLaws.{exit}
use Rattle.parser.proofs.TypeLaws.{tuple_field_read, tuple_field_stopped}
use Rattle.parser.proofs.types.parse_tuple_field.Goals as goal

pub returns-in_err-parse_ident-clause-reads : goal.returns-in_err-parse_ident-clause-reads
returns-in_err-parse_ident-clause-reads c = exit c.from_residual.ensures (tuple_field_stopped c.begin-node.ensures.begun c.in_err-parse_ident.ensures.reads)

pub returns-clause-reads : goal.returns-clause-reads
returns-clause-reads c = tuple_field_read c.begin-node.ensures.begun c.begin-node.ensures.start c.pos_at.ensures c.in_ok-parse_ident.ensures.reads (rw c.plain.ensures at c.close.ensures)
