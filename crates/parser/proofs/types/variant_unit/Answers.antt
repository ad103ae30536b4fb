use Rattle.steps.proofs.ReadLaws.{◌▷◌, stop, exit, node_at, node_stopped}
use Rattle.parser.proofs.types.variant_unit.Goals as goal

pub returns-in_err-parse_ident-clause-reads : goal.returns-in_err-parse_ident-clause-reads
returns-in_err-parse_ident-clause-reads c = exit c.from_residual.ensures (node_stopped _ _ c.begin-node.ensures.begun (stop _ c.in_err-parse_ident.ensures.reads))

pub returns-clause-reads : goal.returns-clause-reads
returns-clause-reads c = node_at _ c.begin-node.ensures.start c.begin-node.ensures.begun (c.in_ok-parse_ident.ensures.reads ▷ c.unit_fields.ensures.reads) c.close_at.ensures
