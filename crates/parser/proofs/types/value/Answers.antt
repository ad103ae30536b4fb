use Rattle.steps.proofs.ReadLaws.{exit, node_at, node_stopped}
use Rattle.parser.proofs.types.value.Goals as goal

pub returns-in_err-parse_worded-clause-reads : goal.returns-in_err-parse_worded-clause-reads
returns-in_err-parse_worded-clause-reads g c = exit c.from_residual.ensures (node_stopped _ _ c.begin-node.ensures.begun c.in_err-parse_worded.ensures.reads)

pub returns-clause-reads : goal.returns-clause-reads
returns-clause-reads g c = node_at _ c.begin-node.ensures.start c.begin-node.ensures.begun c.in_ok-parse_worded.ensures.reads c.close_at.ensures
