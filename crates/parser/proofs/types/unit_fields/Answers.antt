use Rattle.steps.proofs.ReadLaws.{bare_read, nothing_read}
use Rattle.parser.proofs.types.unit_fields.Goals as goal

pub returns-clause-reads : goal.returns-clause-reads
returns-clause-reads c = bare_read _ c.begin-node.ensures.start c.begin-node.ensures.begun (nothing_read {u = tt}) c.close_bare.ensures
