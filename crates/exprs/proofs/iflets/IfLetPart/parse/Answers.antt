use Rattle.steps.proofs.ReadLaws.{◌▷◌, stop, exit, node_at, node_stopped}
use Rattle.exprs.specs.Expr.{parse_iflet}
use Rattle.exprs.proofs.iflets.IfLetPart.parse.Goals as goal

pub returns-in_err-parse_pattern-clause-reads : goal.returns-in_err-parse_pattern-clause-reads
unfolding parse_iflet
returns-in_err-parse_pattern-clause-reads c = exit c.from_residual.ensures (node_stopped _ _ c.begin-node.ensures.begun (stop _ c.in_err-parse_pattern.ensures.reads))

pub returns-in_err-parse_expr-clause-reads : goal.returns-in_err-parse_expr-clause-reads
unfolding parse_iflet
returns-in_err-parse_expr-clause-reads c = exit c.from_residual-in_err-parse_expr.ensures (node_stopped _ _ c.begin-node.ensures.begun (c.in_ok-parse_pattern.ensures.reads ▷ c.in_err-parse_expr.ensures.reads))

pub returns-clause-reads : goal.returns-clause-reads
unfolding parse_iflet
returns-clause-reads c = node_at _ c.begin-node.ensures.start c.begin-node.ensures.begun (c.in_ok-parse_pattern.ensures.reads ▷ c.in_ok-parse_expr.ensures.reads) c.close_at.ensures
