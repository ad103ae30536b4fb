use Rattle.steps.proofs.ReadLaws.{◌▷◌, stop, exit, node_at, node_stopped}
use Rattle.parser.specs.Defs.{parse_etor}
use Rattle.parser.proofs.decls.parse_etor.Goals as goal

pub returns-in_err-etor_head-clause-reads : goal.returns-in_err-etor_head-clause-reads
unfolding parse_etor
returns-in_err-etor_head-clause-reads c = exit c.from_residual.ensures (node_stopped _ _ c.begin-node.ensures.begun (stop _ c.in_err-etor_head.ensures.reads))

pub returns-in_err-parse_pattern-clause-reads : goal.returns-in_err-parse_pattern-clause-reads
unfolding parse_etor
returns-in_err-parse_pattern-clause-reads c = exit c.from_residual-in_err-parse_pattern.ensures (node_stopped _ _ c.begin-node.ensures.begun (c.in_ok-etor_head.ensures.reads ▷ c.in_err-parse_pattern.ensures.reads))

pub returns-clause-reads : goal.returns-clause-reads
unfolding parse_etor
returns-clause-reads c = node_at _ c.begin-node.ensures.start c.begin-node.ensures.begun (c.in_ok-etor_head.ensures.reads ▷ c.in_ok-parse_pattern.ensures.reads) c.close_at.ensures
