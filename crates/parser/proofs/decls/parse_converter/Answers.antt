use Rattle.steps.proofs.ReadLaws.{◌▷◌, stop, exit, node_at, node_stopped}
use Rattle.parser.specs.Defs.{parse_converter}
use Rattle.parser.proofs.decls.parse_converter.Goals as goal

pub returns-in_err-parse_ident-clause-reads : goal.returns-in_err-parse_ident-clause-reads
unfolding parse_converter
returns-in_err-parse_ident-clause-reads c = exit c.from_residual.ensures (node_stopped _ _ c.begin-node.ensures.begun (stop _ (stop _ c.in_err-parse_ident.ensures.reads)))

pub returns-in_err-parse_ident-2-clause-reads : goal.returns-in_err-parse_ident-2-clause-reads
unfolding parse_converter
returns-in_err-parse_ident-2-clause-reads c = exit c.from_residual-in_err-parse_ident-2.ensures (node_stopped _ _ c.begin-node.ensures.begun (stop _ (c.in_ok-parse_ident.ensures.reads ▷ c.in_err-parse_ident-2.ensures.reads)))

pub returns-in_err-parse_ident-3-clause-reads : goal.returns-in_err-parse_ident-3-clause-reads
unfolding parse_converter
returns-in_err-parse_ident-3-clause-reads c = exit c.from_residual-in_err-parse_ident-3.ensures (node_stopped _ _ c.begin-node.ensures.begun (c.in_ok-parse_ident.ensures.reads ▷ c.in_ok-parse_ident-2.ensures.reads ▷ c.in_err-parse_ident-3.ensures.reads))

pub returns-clause-reads : goal.returns-clause-reads
unfolding parse_converter
returns-clause-reads c = node_at _ c.begin-node.ensures.start c.begin-node.ensures.begun (c.in_ok-parse_ident.ensures.reads ▷ c.in_ok-parse_ident-2.ensures.reads ▷ c.in_ok-parse_ident-3.ensures.reads) c.close_at.ensures
