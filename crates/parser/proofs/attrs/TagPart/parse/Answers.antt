use Rattle.steps.proofs.ReadLaws.{exit, bare_read, bare_stopped}
use Rattle.parser.proofs.attrs.TagPart.parse.Goals as goal

pub returns-in_err-parse_ident-clause-reads : goal.returns-in_err-parse_ident-clause-reads
returns-in_err-parse_ident-clause-reads c = exit c.from_residual.ensures (bare_stopped _ c.begin-node.ensures.begun c.in_err-parse_ident.ensures.reads)

pub returns-clause-reads : goal.returns-clause-reads
returns-clause-reads c = bare_read _ c.begin-node.ensures.start c.begin-node.ensures.begun c.in_ok-parse_ident.ensures.reads c.close_bare.ensures
