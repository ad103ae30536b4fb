use Rattle.std.proofs.Common.{sym, refl, ◌∙◌}
use Rattle.tokens.specs.Token.{is_rparen}
use Rattle.tokens.specs.Input.{peek}
use Rattle.steps.proofs.ReadLaws.{◌▷◌, stop, exit, node_at, node_of, node_stopped, next_begun, next_yes, next_no, second_yes, second_no, leaf_read, bounded_went, plain_row, turning_start, turning_on, turning_stop, turning_end}
use Rattle.exprs.specs.Expr.{parse_letdef, let_inside, parse_expr_inner_parens, expr_in, parse_expr}
use Rattle.exprs.proofs.ExprLaws.{expr-bounded, too_deep, not_too_deep}
use Rattle.exprs.proofs.+expr.Goals as goal

pub parse_expr_inner_parens-returns-in_err-expect_lparen_of-clause-reads : goal.parse_expr_inner_parens-returns-in_err-expect_lparen_of-clause-reads
unfolding parse_expr_inner_parens
parse_expr_inner_parens-returns-in_err-expect_lparen_of-clause-reads t c = exit c.from_residual.ensures (second_no _ _ refl c.stands_second.ensures c.if-stands_second.false (node_stopped _ _ c.begin-node.ensures.begun (stop _ (stop _ (stop _ c.in_err-expect_lparen_of.ensures.reads)))))

pub parse_expr_inner_parens-returns-in_err-parse_ident-clause-reads : goal.parse_expr_inner_parens-returns-in_err-parse_ident-clause-reads
unfolding parse_expr_inner_parens
parse_expr_inner_parens-returns-in_err-parse_ident-clause-reads t c = exit c.from_residual-in_err-parse_ident.ensures (second_no _ _ refl c.stands_second.ensures c.if-stands_second.false (node_stopped _ _ c.begin-node.ensures.begun (stop _ (stop _ (c.in_ok-expect_lparen_of.ensures.reads ▷ c.in_err-parse_ident.ensures.reads)))))

pub parse_expr_inner_parens-returns-in_err-parse_exprs-clause-reads : goal.parse_expr_inner_parens-returns-in_err-parse_exprs-clause-reads
unfolding parse_expr_inner_parens
parse_expr_inner_parens-returns-in_err-parse_exprs-clause-reads t c = exit c.from_residual-in_err-parse_exprs.ensures (second_no _ _ refl c.stands_second.ensures c.if-stands_second.false (node_stopped _ _ c.begin-node.ensures.begun (stop _ (c.in_ok-expect_lparen_of.ensures.reads ▷ c.in_ok-parse_ident.ensures.reads ▷ c.in_err-parse_exprs.ensures.reads))))

pub parse_expr_inner_parens-returns-in_err-expect_rparen-clause-reads : goal.parse_expr_inner_parens-returns-in_err-expect_rparen-clause-reads
unfolding parse_expr_inner_parens
parse_expr_inner_parens-returns-in_err-expect_rparen-clause-reads t c = exit c.from_residual-in_err-expect_rparen.ensures (second_no _ _ refl c.stands_second.ensures c.if-stands_second.false (node_stopped _ _ c.begin-node.ensures.begun (c.in_ok-expect_lparen_of.ensures.reads ▷ c.in_ok-parse_ident.ensures.reads ▷ c.in_ok-parse_exprs.ensures.reads ▷ c.in_err-expect_rparen.ensures.reads)))

pub parse_expr_inner_parens-returns-clause-reads : goal.parse_expr_inner_parens-returns-clause-reads
unfolding parse_expr_inner_parens
parse_expr_inner_parens-returns-clause-reads t c = second_no _ _ refl c.stands_second.ensures c.if-stands_second.false (node_of _ c.requires.next c.begin-node.ensures.start c.begin-node.ensures.begun (c.in_ok-expect_lparen_of.ensures.reads ▷ c.in_ok-parse_ident.ensures.reads ▷ c.in_ok-parse_exprs.ensures.reads ▷ c.in_ok-expect_rparen.ensures.reads) c.close_of.ensures)

pub parse_expr_inner_parens-returns-then-stands_second-clause-reads : goal.parse_expr_inner_parens-returns-then-stands_second-clause-reads
unfolding parse_expr_inner_parens
parse_expr_inner_parens-returns-then-stands_second-clause-reads t c = second_yes _ _ refl c.stands_second.ensures c.if-stands_second.true c.parse_let_parens.ensures.reads

pub parse_let_parens-returns-in_err-expect_lparen_of-clause-reads : goal.parse_let_parens-returns-in_err-expect_lparen_of-clause-reads
parse_let_parens-returns-in_err-expect_lparen_of-clause-reads t c = exit c.from_residual.ensures (node_stopped _ _ c.begin-node.ensures.begun (stop _ c.in_err-expect_lparen_of.ensures.reads))

pub parse_let_parens-returns-in_err-parse_let-clause-reads : goal.parse_let_parens-returns-in_err-parse_let-clause-reads
parse_let_parens-returns-in_err-parse_let-clause-reads t c = exit c.from_residual-in_err-parse_let.ensures (node_stopped _ _ c.begin-node.ensures.begun (c.in_ok-expect_lparen_of.ensures.reads ▷ c.in_err-parse_let.ensures.reads))

pub parse_let_parens-returns-clause-reads : goal.parse_let_parens-returns-clause-reads
parse_let_parens-returns-clause-reads t c = node_of _ c.requires.next c.begin-node.ensures.start c.begin-node.ensures.begun (c.in_ok-expect_lparen_of.ensures.reads ▷ c.in_ok-parse_let.ensures.reads) c.close_of.ensures

pub parse_expr_inner_parens-expect_lparen_of-requires : goal.parse_expr_inner_parens-expect_lparen_of-requires
parse_expr_inner_parens-expect_lparen_of-requires t c = next_begun c.begin-node.ensures.begun c.requires.next

pub parse_let_parens-expect_lparen_of-requires : goal.parse_let_parens-expect_lparen_of-requires
parse_let_parens-expect_lparen_of-requires t c = next_begun c.begin-node.ensures.begun c.requires.next

pub parse_letdef-returns-in_err-expect_lparen-clause-reads : goal.parse_letdef-returns-in_err-expect_lparen-clause-reads
unfolding parse_letdef
parse_letdef-returns-in_err-expect_lparen-clause-reads t c = exit c.from_residual.ensures (node_stopped _ _ c.begin-node.ensures.begun (stop _ (stop _ (stop _ (stop _ c.in_err-expect_lparen.ensures.reads)))))

pub parse_letdef-returns-in_err-parse_ident-clause-reads : goal.parse_letdef-returns-in_err-parse_ident-clause-reads
unfolding parse_letdef
parse_letdef-returns-in_err-parse_ident-clause-reads t c = exit c.from_residual-in_err-parse_ident.ensures (node_stopped _ _ c.begin-node.ensures.begun (stop _ (stop _ (stop _ (c.in_ok-expect_lparen.ensures.reads ▷ c.in_err-parse_ident.ensures.reads)))))

pub parse_letdef-returns-in_err-parse_ident-2-clause-reads : goal.parse_letdef-returns-in_err-parse_ident-2-clause-reads
unfolding parse_letdef
parse_letdef-returns-in_err-parse_ident-2-clause-reads t c = exit c.from_residual-in_err-parse_ident-2.ensures (node_stopped _ _ c.begin-node.ensures.begun (stop _ (stop _ (c.in_ok-expect_lparen.ensures.reads ▷ c.in_ok-parse_ident.ensures.reads ▷ c.in_err-parse_ident-2.ensures.reads))))

pub parse_letdef-returns-in_err-parse_expr-clause-reads : goal.parse_letdef-returns-in_err-parse_expr-clause-reads
unfolding parse_letdef
parse_letdef-returns-in_err-parse_expr-clause-reads t c = exit c.from_residual-in_err-parse_expr.ensures (node_stopped _ _ c.begin-node.ensures.begun (stop _ (c.in_ok-expect_lparen.ensures.reads ▷ c.in_ok-parse_ident.ensures.reads ▷ c.in_ok-parse_ident-2.ensures.reads ▷ c.in_err-parse_expr.ensures.reads)))

pub parse_letdef-returns-in_err-expect_rparen-clause-reads : goal.parse_letdef-returns-in_err-expect_rparen-clause-reads
unfolding parse_letdef
parse_letdef-returns-in_err-expect_rparen-clause-reads t c = exit c.from_residual-in_err-expect_rparen.ensures (node_stopped _ _ c.begin-node.ensures.begun (c.in_ok-expect_lparen.ensures.reads ▷ c.in_ok-parse_ident.ensures.reads ▷ c.in_ok-parse_ident-2.ensures.reads ▷ c.in_ok-parse_expr.ensures.reads ▷ c.in_err-expect_rparen.ensures.reads))

pub parse_letdef-returns-clause-reads : goal.parse_letdef-returns-clause-reads
unfolding parse_letdef
parse_letdef-returns-clause-reads t c = node_at _ c.begin-node.ensures.start c.begin-node.ensures.begun (c.in_ok-expect_lparen.ensures.reads ▷ c.in_ok-parse_ident.ensures.reads ▷ c.in_ok-parse_ident-2.ensures.reads ▷ c.in_ok-parse_expr.ensures.reads ▷ c.in_ok-expect_rparen.ensures.reads) c.close_at.ensures

pub parse_let-returns-in_err-expect_word-clause-reads : goal.parse_let-returns-in_err-expect_word-clause-reads
unfolding let_inside
parse_let-returns-in_err-expect_word-clause-reads t c = exit c.from_residual.ensures (stop _ (stop _ (stop _ (stop _ (stop _ c.in_err-expect_word.ensures.reads)))))

pub parse_let-returns-in_err-expect_lparen-clause-reads : goal.parse_let-returns-in_err-expect_lparen-clause-reads
unfolding let_inside
parse_let-returns-in_err-expect_lparen-clause-reads t c = exit c.from_residual-in_err-expect_lparen.ensures (stop _ (stop _ (stop _ (stop _ (c.in_ok-expect_word.ensures.reads ▷ c.in_err-expect_lparen.ensures.reads)))))

pub parse_let-returns-in_err-parse_letdefs-clause-reads : goal.parse_let-returns-in_err-parse_letdefs-clause-reads
unfolding let_inside
parse_let-returns-in_err-parse_letdefs-clause-reads t c = exit c.from_residual-in_err-parse_letdefs.ensures (stop _ (stop _ (stop _ (c.in_ok-expect_word.ensures.reads ▷ c.in_ok-expect_lparen.ensures.reads ▷ c.in_err-parse_letdefs.ensures.reads))))

pub parse_let-returns-in_err-expect_rparen-clause-reads : goal.parse_let-returns-in_err-expect_rparen-clause-reads
unfolding let_inside
parse_let-returns-in_err-expect_rparen-clause-reads t c = exit c.from_residual-in_err-expect_rparen.ensures (stop _ (stop _ (c.in_ok-expect_word.ensures.reads ▷ c.in_ok-expect_lparen.ensures.reads ▷ c.in_ok-parse_letdefs.ensures.reads ▷ c.in_err-expect_rparen.ensures.reads)))

pub parse_let-returns-in_err-parse_expr-clause-reads : goal.parse_let-returns-in_err-parse_expr-clause-reads
unfolding let_inside
parse_let-returns-in_err-parse_expr-clause-reads t c = exit c.from_residual-in_err-parse_expr.ensures (stop _ (c.in_ok-expect_word.ensures.reads ▷ c.in_ok-expect_lparen.ensures.reads ▷ c.in_ok-parse_letdefs.ensures.reads ▷ c.in_ok-expect_rparen.ensures.reads ▷ c.in_err-parse_expr.ensures.reads))

pub parse_let-returns-clause-reads : goal.parse_let-returns-clause-reads
unfolding let_inside
parse_let-returns-clause-reads t c = c.in_ok-expect_word.ensures.reads ▷ c.in_ok-expect_lparen.ensures.reads ▷ c.in_ok-parse_letdefs.ensures.reads ▷ c.in_ok-expect_rparen.ensures.reads ▷ c.in_ok-parse_expr.ensures.reads ▷ c.expect_rparen-2.ensures.reads

pub parse_letdefs-loop-p-init : goal.parse_letdefs-loop-p-init
parse_letdefs-loop-p-init t c = turning_start c.requires

pub parse_letdefs-loop-p-preserved : goal.parse_letdefs-loop-p-preserved
parse_letdefs-loop-p-preserved t c = turning_on c.loop-p.invariant (sym c.at_rparen.ensures ∙ c.loop-p-test.true) c.in_ok-parse_letdef.ensures.reads c.in_ok-parse_letdef.ensures.within

pub parse_letdefs-returns-in_err-parse_letdef-clause-reads : goal.parse_letdefs-returns-in_err-parse_letdef-clause-reads
parse_letdefs-returns-in_err-parse_letdef-clause-reads t c = exit c.from_residual.ensures (plain_row (λ s i. is_rparen (peek s i)) (λ s. parse_letdef s (parse_expr s c.args.depth)) (turning_stop c.loop-p.invariant (sym c.at_rparen.ensures ∙ c.loop-p-test.true) c.in_err-parse_letdef.ensures.reads))

pub parse_letdefs-returns-clause-reads : goal.parse_letdefs-returns-clause-reads
parse_letdefs-returns-clause-reads t c = plain_row (λ s i. is_rparen (peek s i)) (λ s. parse_letdef s (parse_expr s c.args.depth)) (turning_end c.loop-p.invariant (sym c.at_rparen.ensures ∙ c.loop-p-test.false))

pub parse_exprs-loop-p-init : goal.parse_exprs-loop-p-init
parse_exprs-loop-p-init t c = turning_start c.requires

pub parse_exprs-loop-p-preserved : goal.parse_exprs-loop-p-preserved
parse_exprs-loop-p-preserved t c = turning_on c.loop-p.invariant (sym c.at_rparen.ensures ∙ c.loop-p-test.true) c.in_ok-parse_expr.ensures.reads c.in_ok-parse_expr.ensures.within

pub parse_exprs-returns-in_err-parse_expr-clause-reads : goal.parse_exprs-returns-in_err-parse_expr-clause-reads
parse_exprs-returns-in_err-parse_expr-clause-reads t c = exit c.from_residual.ensures (plain_row (λ s i. is_rparen (peek s i)) (λ s. parse_expr s c.args.depth) (turning_stop c.loop-p.invariant (sym c.at_rparen.ensures ∙ c.loop-p-test.true) c.in_err-parse_expr.ensures.reads))

pub parse_exprs-returns-clause-reads : goal.parse_exprs-returns-clause-reads
parse_exprs-returns-clause-reads t c = plain_row (λ s i. is_rparen (peek s i)) (λ s. parse_expr s c.args.depth) (turning_end c.loop-p.invariant (sym c.at_rparen.ensures ∙ c.loop-p-test.false))

pub parse_expr-returns-then-depth-eq0-clause-reads : goal.parse_expr-returns-then-depth-eq0-clause-reads
parse_expr-returns-then-depth-eq0-clause-reads t c = too_deep _ c.if-depth-eq0.true c.refuse_at.ensures

pub parse_expr-returns-then-depth-eq0-clause-within : goal.parse_expr-returns-then-depth-eq0-clause-within
parse_expr-returns-then-depth-eq0-clause-within t c = bounded_went 1 1 0 (λ s. expr-bounded s c.args.depth) (parse_expr-returns-then-depth-eq0-clause-reads t c)

pub parse_expr-returns-then-is_lparen-clause-reads : goal.parse_expr-returns-then-is_lparen-clause-reads
unfolding expr_in
parse_expr-returns-then-is_lparen-clause-reads t c = not_too_deep _ c.if-depth-eq0.false (next_yes _ _ c.next_token-t.ensures c.is_lparen.ensures c.if-is_lparen.true (c.parse_expr_inner_parens.ensures.reads))

pub parse_expr-returns-then-is_const-clause-reads : goal.parse_expr-returns-then-is_const-clause-reads
unfolding expr_in
parse_expr-returns-then-is_const-clause-reads t c = not_too_deep _ c.if-depth-eq0.false (next_no _ _ c.next_token-t.ensures c.is_lparen.ensures c.if-is_lparen.false (next_yes _ _ c.next_token-t.ensures c.is_const.ensures c.if-is_const.true (c.const_node_of.ensures.reads)))

pub parse_expr-returns-then-is_word-clause-reads : goal.parse_expr-returns-then-is_word-clause-reads
unfolding expr_in
parse_expr-returns-then-is_word-clause-reads t c = not_too_deep _ c.if-depth-eq0.false (next_no _ _ c.next_token-t.ensures c.is_lparen.ensures c.if-is_lparen.false (next_no _ _ c.next_token-t.ensures c.is_const.ensures c.if-is_const.false (next_yes _ _ c.next_token-t.ensures c.is_word.ensures c.if-is_word.true (leaf_read _ c.next_token-t.ensures c.leaf_of.ensures))))

pub parse_expr-returns-then-is_word-clause-within : goal.parse_expr-returns-then-is_word-clause-within
parse_expr-returns-then-is_word-clause-within t c = bounded_went 1 1 0 (λ s. expr-bounded s c.args.depth) (parse_expr-returns-then-is_word-clause-reads t c)

pub parse_expr-returns-then-is_word-2-clause-reads : goal.parse_expr-returns-then-is_word-2-clause-reads
unfolding expr_in
parse_expr-returns-then-is_word-2-clause-reads t c = not_too_deep _ c.if-depth-eq0.false (next_no _ _ c.next_token-t.ensures c.is_lparen.ensures c.if-is_lparen.false (next_no _ _ c.next_token-t.ensures c.is_const.ensures c.if-is_const.false (next_no _ _ c.next_token-t.ensures c.is_word.ensures c.if-is_word.false (next_yes _ _ c.next_token-t.ensures c.is_word-2.ensures c.if-is_word-2.true (leaf_read _ c.next_token-t.ensures c.leaf_of-then-is_word-2.ensures)))))

pub parse_expr-returns-then-is_word-2-clause-within : goal.parse_expr-returns-then-is_word-2-clause-within
parse_expr-returns-then-is_word-2-clause-within t c = bounded_went 1 1 0 (λ s. expr-bounded s c.args.depth) (parse_expr-returns-then-is_word-2-clause-reads t c)

pub parse_expr-returns-then-is_symbol-clause-reads : goal.parse_expr-returns-then-is_symbol-clause-reads
unfolding expr_in
parse_expr-returns-then-is_symbol-clause-reads t c = not_too_deep _ c.if-depth-eq0.false (next_no _ _ c.next_token-t.ensures c.is_lparen.ensures c.if-is_lparen.false (next_no _ _ c.next_token-t.ensures c.is_const.ensures c.if-is_const.false (next_no _ _ c.next_token-t.ensures c.is_word.ensures c.if-is_word.false (next_no _ _ c.next_token-t.ensures c.is_word-2.ensures c.if-is_word-2.false (next_yes _ _ c.next_token-t.ensures c.is_symbol.ensures c.if-is_symbol.true (c.ident_node_of.ensures.reads))))))

pub parse_expr-returns-then-is_int-clause-reads : goal.parse_expr-returns-then-is_int-clause-reads
unfolding expr_in
parse_expr-returns-then-is_int-clause-reads t c = not_too_deep _ c.if-depth-eq0.false (next_no _ _ c.next_token-t.ensures c.is_lparen.ensures c.if-is_lparen.false (next_no _ _ c.next_token-t.ensures c.is_const.ensures c.if-is_const.false (next_no _ _ c.next_token-t.ensures c.is_word.ensures c.if-is_word.false (next_no _ _ c.next_token-t.ensures c.is_word-2.ensures c.if-is_word-2.false (next_no _ _ c.next_token-t.ensures c.is_symbol.ensures c.if-is_symbol.false (next_yes _ _ c.next_token-t.ensures c.is_int.ensures c.if-is_int.true (leaf_read _ c.next_token-t.ensures c.int_of.ensures)))))))

pub parse_expr-returns-then-is_int-clause-within : goal.parse_expr-returns-then-is_int-clause-within
parse_expr-returns-then-is_int-clause-within t c = bounded_went 1 1 0 (λ s. expr-bounded s c.args.depth) (parse_expr-returns-then-is_int-clause-reads t c)

pub parse_expr-returns-clause-reads : goal.parse_expr-returns-clause-reads
unfolding expr_in
parse_expr-returns-clause-reads t c = not_too_deep _ c.if-depth-eq0.false (next_no _ _ c.next_token-t.ensures c.is_lparen.ensures c.if-is_lparen.false (next_no _ _ c.next_token-t.ensures c.is_const.ensures c.if-is_const.false (next_no _ _ c.next_token-t.ensures c.is_word.ensures c.if-is_word.false (next_no _ _ c.next_token-t.ensures c.is_word-2.ensures c.if-is_word-2.false (next_no _ _ c.next_token-t.ensures c.is_symbol.ensures c.if-is_symbol.false (next_no _ _ c.next_token-t.ensures c.is_int.ensures c.if-is_int.false c.refuse_at-2.ensures))))))

pub parse_expr-returns-clause-within : goal.parse_expr-returns-clause-within
parse_expr-returns-clause-within t c = bounded_went 1 1 0 (λ s. expr-bounded s c.args.depth) (parse_expr-returns-clause-reads t c)

pub parse_expr-const_node_of-requires-clause-constant : goal.parse_expr-const_node_of-requires-clause-constant
parse_expr-const_node_of-requires-clause-constant t c = sym c.is_const.ensures ∙ c.if-is_const.true

pub parse_expr-ident_node_of-requires-clause-symbol : goal.parse_expr-ident_node_of-requires-clause-symbol
parse_expr-ident_node_of-requires-clause-symbol t c = sym c.is_symbol.ensures ∙ c.if-is_symbol.true
