use Rattle.steps.proofs.ReadLaws.{◌▷◌, exit, node_at, node_stopped, empty_node}
use Rattle.exprs.specs.Expr.{parse_iflet_if}
use Rattle.exprs.proofs.iflets.IfPart.parse.Goals as goal

pub returns-in_err-parse_expr-clause-reads : goal.returns-in_err-parse_expr-clause-reads
unfolding parse_iflet_if
returns-in_err-parse_expr-clause-reads c = exit c.from_residual.ensures (node_stopped _ _ c.begin-node.ensures.begun (empty_node _ c.begin-wildcard.ensures.start c.begin-wildcard.ensures.begun c.close_at.ensures ▷ c.in_err-parse_expr.ensures.reads))

pub returns-clause-reads : goal.returns-clause-reads
unfolding parse_iflet_if
returns-clause-reads c = node_at _ c.begin-node.ensures.start c.begin-node.ensures.begun (empty_node _ c.begin-wildcard.ensures.start c.begin-wildcard.ensures.begun c.close_at.ensures ▷ c.in_ok-parse_expr.ensures.reads) c.close_at-2.ensures
