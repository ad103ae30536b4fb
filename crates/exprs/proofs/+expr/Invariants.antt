use Rattle.std.proofs.Common.{suc, ◌+◌, ◌-◌, ◌*◌}
use Rattle.tokens.specs.Token.{is_rparen}
use Rattle.tokens.specs.Input.{peek, size}
use Rattle.steps.specs.Read.{read_by}
use Rattle.steps.proofs.ReadLaws.{Turning}
use Rattle.exprs.specs.Expr.{parse_letdef, parse_expr}
use Rattle.exprs.proofs.+expr.Given as goal

abbrev pub decreases-parse_expr : goal.decreases-parse_expr
decreases-parse_expr l = 6 * l.depth

abbrev pub decreases-parse_expr_inner_parens : goal.decreases-parse_expr_inner_parens
decreases-parse_expr_inner_parens l = 6 * l.depth + 5

abbrev pub decreases-parse_let_parens : goal.decreases-parse_let_parens
decreases-parse_let_parens l = 6 * l.depth + 4

abbrev pub decreases-parse_exprs : goal.decreases-parse_exprs
decreases-parse_exprs l = 6 * l.depth + 1

abbrev pub decreases-parse_let : goal.decreases-parse_let
decreases-parse_let l = 6 * l.depth + 3

abbrev pub decreases-parse_letdef : goal.decreases-parse_letdef
decreases-parse_letdef l = 6 * l.depth + 1

abbrev pub decreases-parse_letdefs : goal.decreases-parse_letdefs
decreases-parse_letdefs l = 6 * l.depth + 2

abbrev pub invariant-parse_exprs-loop-p : goal.invariant-parse_exprs-loop-p
invariant-parse_exprs-loop-p l = Turning (λ s i. is_rparen (peek s i)) (λ s _. parse_expr s l.depth) l.initial.p l.p

abbrev pub decreases-parse_exprs-loop-p : goal.decreases-parse_exprs-loop-p
decreases-parse_exprs-loop-p l = suc (size (read_by l.initial.p)) - l.p.state.next

abbrev pub invariant-parse_letdefs-loop-p : goal.invariant-parse_letdefs-loop-p
invariant-parse_letdefs-loop-p l = Turning (λ s i. is_rparen (peek s i)) (λ s _. parse_letdef s (parse_expr s l.depth)) l.initial.p l.p

abbrev pub decreases-parse_letdefs-loop-p : goal.decreases-parse_letdefs-loop-p
decreases-parse_letdefs-loop-p l = suc (size (read_by l.initial.p)) - l.p.state.next
