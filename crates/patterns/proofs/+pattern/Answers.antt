use Rattle.std.proofs.Common.{sym, ◌∙◌}
use Rattle.tokens.specs.Token.{is_rparen}
use Rattle.tokens.specs.Input.{peek}
use Rattle.steps.proofs.ReadLaws.{◌▷◌, stop, exit, node_of, node_stopped, next_begun, next_yes, next_no, second_yes, second_no, second_at, second_not_at, leaf_read, bounded_went, plain_row, turning_start, turning_on, turning_stop, turning_end}
use Rattle.patterns.specs.Pattern.{compound, pattern_in, parse_pattern}
use Rattle.patterns.proofs.PatternLaws.{compound-bounded, pattern-bounded, too_deep, not_too_deep}
use Rattle.patterns.proofs.+pattern.Goals as goal

pub parse_bind-returns-in_err-parse_ident-clause-reads : goal.parse_bind-returns-in_err-parse_ident-clause-reads
parse_bind-returns-in_err-parse_ident-clause-reads t c = exit c.from_residual.ensures (node_stopped _ _ c.begin-node.ensures.begun (stop _ (stop _ c.in_err-parse_ident.ensures.reads)))

pub parse_bind-returns-in_err-expect_at-clause-reads : goal.parse_bind-returns-in_err-expect_at-clause-reads
parse_bind-returns-in_err-expect_at-clause-reads t c = exit c.from_residual-in_err-expect_at.ensures (node_stopped _ _ c.begin-node.ensures.begun (stop _ (c.in_ok-parse_ident.ensures.reads ▷ c.in_err-expect_at.ensures.reads)))

pub parse_bind-returns-in_err-parse_pattern-clause-reads : goal.parse_bind-returns-in_err-parse_pattern-clause-reads
parse_bind-returns-in_err-parse_pattern-clause-reads t c = exit c.from_residual-in_err-parse_pattern.ensures (node_stopped _ _ c.begin-node.ensures.begun (c.in_ok-parse_ident.ensures.reads ▷ c.in_ok-expect_at.ensures.reads ▷ c.in_err-parse_pattern.ensures.reads))

pub parse_bind-returns-clause-reads : goal.parse_bind-returns-clause-reads
parse_bind-returns-clause-reads t c = node_of _ c.requires.next c.begin-node.ensures.start c.begin-node.ensures.begun (c.in_ok-parse_ident.ensures.reads ▷ c.in_ok-expect_at.ensures.reads ▷ c.in_ok-parse_pattern.ensures.reads) c.close_of.ensures

pub parse_and-returns-in_err-expect_lparen_of-clause-reads : goal.parse_and-returns-in_err-expect_lparen_of-clause-reads
parse_and-returns-in_err-expect_lparen_of-clause-reads t c = exit c.from_residual.ensures (node_stopped _ _ c.begin-node.ensures.begun (stop _ (stop _ (stop _ c.in_err-expect_lparen_of.ensures.reads))))

pub parse_and-returns-in_err-expect_word-clause-reads : goal.parse_and-returns-in_err-expect_word-clause-reads
parse_and-returns-in_err-expect_word-clause-reads t c = exit c.from_residual-in_err-expect_word.ensures (node_stopped _ _ c.begin-node.ensures.begun (stop _ (stop _ (c.in_ok-expect_lparen_of.ensures.reads ▷ c.in_err-expect_word.ensures.reads))))

pub parse_and-returns-in_err-parse_patterns-clause-reads : goal.parse_and-returns-in_err-parse_patterns-clause-reads
parse_and-returns-in_err-parse_patterns-clause-reads t c = exit c.from_residual-in_err-parse_patterns.ensures (node_stopped _ _ c.begin-node.ensures.begun (stop _ (c.in_ok-expect_lparen_of.ensures.reads ▷ c.in_ok-expect_word.ensures.reads ▷ c.in_err-parse_patterns.ensures.reads)))

pub parse_and-returns-in_err-expect_rparen-clause-reads : goal.parse_and-returns-in_err-expect_rparen-clause-reads
parse_and-returns-in_err-expect_rparen-clause-reads t c = exit c.from_residual-in_err-expect_rparen.ensures (node_stopped _ _ c.begin-node.ensures.begun (c.in_ok-expect_lparen_of.ensures.reads ▷ c.in_ok-expect_word.ensures.reads ▷ c.in_ok-parse_patterns.ensures.reads ▷ c.in_err-expect_rparen.ensures.reads))

pub parse_and-returns-clause-reads : goal.parse_and-returns-clause-reads
parse_and-returns-clause-reads t c = node_of _ c.requires.next c.begin-node.ensures.start c.begin-node.ensures.begun (c.in_ok-expect_lparen_of.ensures.reads ▷ c.in_ok-expect_word.ensures.reads ▷ c.in_ok-parse_patterns.ensures.reads ▷ c.in_ok-expect_rparen.ensures.reads) c.close_of.ensures

pub parse_term-returns-in_err-expect_lparen_of-clause-reads : goal.parse_term-returns-in_err-expect_lparen_of-clause-reads
parse_term-returns-in_err-expect_lparen_of-clause-reads t c = exit c.from_residual.ensures (node_stopped _ _ c.begin-node.ensures.begun (stop _ (stop _ (stop _ c.in_err-expect_lparen_of.ensures.reads))))

pub parse_term-returns-in_err-parse_ident-clause-reads : goal.parse_term-returns-in_err-parse_ident-clause-reads
parse_term-returns-in_err-parse_ident-clause-reads t c = exit c.from_residual-in_err-parse_ident.ensures (node_stopped _ _ c.begin-node.ensures.begun (stop _ (stop _ (c.in_ok-expect_lparen_of.ensures.reads ▷ c.in_err-parse_ident.ensures.reads))))

pub parse_term-returns-in_err-parse_patterns-clause-reads : goal.parse_term-returns-in_err-parse_patterns-clause-reads
parse_term-returns-in_err-parse_patterns-clause-reads t c = exit c.from_residual-in_err-parse_patterns.ensures (node_stopped _ _ c.begin-node.ensures.begun (stop _ (c.in_ok-expect_lparen_of.ensures.reads ▷ c.in_ok-parse_ident.ensures.reads ▷ c.in_err-parse_patterns.ensures.reads)))

pub parse_term-returns-in_err-expect_rparen-clause-reads : goal.parse_term-returns-in_err-expect_rparen-clause-reads
parse_term-returns-in_err-expect_rparen-clause-reads t c = exit c.from_residual-in_err-expect_rparen.ensures (node_stopped _ _ c.begin-node.ensures.begun (c.in_ok-expect_lparen_of.ensures.reads ▷ c.in_ok-parse_ident.ensures.reads ▷ c.in_ok-parse_patterns.ensures.reads ▷ c.in_err-expect_rparen.ensures.reads))

pub parse_term-returns-clause-reads : goal.parse_term-returns-clause-reads
parse_term-returns-clause-reads t c = node_of _ c.requires.next c.begin-node.ensures.start c.begin-node.ensures.begun (c.in_ok-expect_lparen_of.ensures.reads ▷ c.in_ok-parse_ident.ensures.reads ▷ c.in_ok-parse_patterns.ensures.reads ▷ c.in_ok-expect_rparen.ensures.reads) c.close_of.ensures

pub parse_and-expect_lparen_of-requires : goal.parse_and-expect_lparen_of-requires
parse_and-expect_lparen_of-requires t c = next_begun c.begin-node.ensures.begun c.requires.next

pub parse_term-expect_lparen_of-requires : goal.parse_term-expect_lparen_of-requires
parse_term-expect_lparen_of-requires t c = next_begun c.begin-node.ensures.begun c.requires.next

pub parse_compound-returns-then-second_kind-eq-AT-clause-reads : goal.parse_compound-returns-then-second_kind-eq-AT-clause-reads
unfolding compound
parse_compound-returns-then-second_kind-eq-AT-clause-reads t c = next_yes _ _ c.requires.next c.is_symbol.ensures c.if-is_symbol.true (second_at _ c.second_kind.ensures c.if-second_kind-eq-AT.true c.parse_bind.ensures.reads)

pub parse_compound-returns-then-is_symbol-clause-reads : goal.parse_compound-returns-then-is_symbol-clause-reads
unfolding compound
parse_compound-returns-then-is_symbol-clause-reads t c = next_yes _ _ c.requires.next c.is_symbol.ensures c.if-is_symbol.true (second_not_at _ c.second_kind.ensures c.if-second_kind-eq-AT.false c.ident_node_of.ensures.reads)

pub parse_compound-returns-then-is_word-clause-reads : goal.parse_compound-returns-then-is_word-clause-reads
unfolding compound
parse_compound-returns-then-is_word-clause-reads t c = next_no _ _ c.requires.next c.is_symbol.ensures c.if-is_symbol.false (next_yes _ _ c.requires.next c.is_lparen.ensures c.if-is_lparen.true (second_yes _ _ c.second_token-u.ensures c.is_word.ensures c.if-is_word.true c.parse_and.ensures.reads))

pub parse_compound-returns-then-is_lparen-clause-reads : goal.parse_compound-returns-then-is_lparen-clause-reads
unfolding compound
parse_compound-returns-then-is_lparen-clause-reads t c = next_no _ _ c.requires.next c.is_symbol.ensures c.if-is_symbol.false (next_yes _ _ c.requires.next c.is_lparen.ensures c.if-is_lparen.true (second_no _ _ c.second_token-u.ensures c.is_word.ensures c.if-is_word.false c.parse_term.ensures.reads))

pub parse_compound-returns-clause-reads : goal.parse_compound-returns-clause-reads
unfolding compound
parse_compound-returns-clause-reads t c = next_no _ _ c.requires.next c.is_symbol.ensures c.if-is_symbol.false (next_no _ _ c.requires.next c.is_lparen.ensures c.if-is_lparen.false c.refuse_at.ensures)

pub parse_compound-ident_node_of-requires-clause-symbol : goal.parse_compound-ident_node_of-requires-clause-symbol
parse_compound-ident_node_of-requires-clause-symbol t c = sym c.is_symbol.ensures ∙ c.if-is_symbol.true

pub parse_compound-returns-clause-within : goal.parse_compound-returns-clause-within
parse_compound-returns-clause-within t c = bounded_went 1 1 0 (λ s. compound-bounded s (parse_pattern s c.args.depth) (pattern-bounded s c.args.depth)) (parse_compound-returns-clause-reads t c)

pub parse_pattern-returns-then-depth-eq0-clause-reads : goal.parse_pattern-returns-then-depth-eq0-clause-reads
parse_pattern-returns-then-depth-eq0-clause-reads t c = too_deep _ c.if-depth-eq0.true c.refuse_at.ensures

pub parse_pattern-returns-then-depth-eq0-clause-within : goal.parse_pattern-returns-then-depth-eq0-clause-within
parse_pattern-returns-then-depth-eq0-clause-within t c = bounded_went 1 1 0 (λ s. pattern-bounded s c.args.depth) (parse_pattern-returns-then-depth-eq0-clause-reads t c)

pub parse_pattern-returns-then-is_int-clause-reads : goal.parse_pattern-returns-then-is_int-clause-reads
unfolding pattern_in
parse_pattern-returns-then-is_int-clause-reads t c = not_too_deep _ c.if-depth-eq0.false (next_yes _ _ c.next_token-t.ensures c.is_int.ensures c.if-is_int.true (leaf_read _ c.next_token-t.ensures c.int_of.ensures))

pub parse_pattern-returns-then-is_int-clause-within : goal.parse_pattern-returns-then-is_int-clause-within
parse_pattern-returns-then-is_int-clause-within t c = bounded_went 1 1 0 (λ s. pattern-bounded s c.args.depth) (parse_pattern-returns-then-is_int-clause-reads t c)

pub parse_pattern-returns-then-is_const-clause-reads : goal.parse_pattern-returns-then-is_const-clause-reads
unfolding pattern_in
parse_pattern-returns-then-is_const-clause-reads t c = not_too_deep _ c.if-depth-eq0.false (next_no _ _ c.next_token-t.ensures c.is_int.ensures c.if-is_int.false (next_yes _ _ c.next_token-t.ensures c.is_const.ensures c.if-is_const.true (c.const_node_of.ensures.reads)))

pub parse_pattern-returns-then-is_word-clause-reads : goal.parse_pattern-returns-then-is_word-clause-reads
unfolding pattern_in
parse_pattern-returns-then-is_word-clause-reads t c = not_too_deep _ c.if-depth-eq0.false (next_no _ _ c.next_token-t.ensures c.is_int.ensures c.if-is_int.false (next_no _ _ c.next_token-t.ensures c.is_const.ensures c.if-is_const.false (next_yes _ _ c.next_token-t.ensures c.is_word.ensures c.if-is_word.true (leaf_read _ c.next_token-t.ensures c.leaf_of.ensures))))

pub parse_pattern-returns-then-is_word-clause-within : goal.parse_pattern-returns-then-is_word-clause-within
parse_pattern-returns-then-is_word-clause-within t c = bounded_went 1 1 0 (λ s. pattern-bounded s c.args.depth) (parse_pattern-returns-then-is_word-clause-reads t c)

pub parse_pattern-returns-then-is_word-2-clause-reads : goal.parse_pattern-returns-then-is_word-2-clause-reads
unfolding pattern_in
parse_pattern-returns-then-is_word-2-clause-reads t c = not_too_deep _ c.if-depth-eq0.false (next_no _ _ c.next_token-t.ensures c.is_int.ensures c.if-is_int.false (next_no _ _ c.next_token-t.ensures c.is_const.ensures c.if-is_const.false (next_no _ _ c.next_token-t.ensures c.is_word.ensures c.if-is_word.false (next_yes _ _ c.next_token-t.ensures c.is_word-2.ensures c.if-is_word-2.true (leaf_read _ c.next_token-t.ensures c.leaf_of-then-is_word-2.ensures)))))

pub parse_pattern-returns-then-is_word-2-clause-within : goal.parse_pattern-returns-then-is_word-2-clause-within
parse_pattern-returns-then-is_word-2-clause-within t c = bounded_went 1 1 0 (λ s. pattern-bounded s c.args.depth) (parse_pattern-returns-then-is_word-2-clause-reads t c)

pub parse_pattern-returns-then-is_word-3-clause-reads : goal.parse_pattern-returns-then-is_word-3-clause-reads
unfolding pattern_in
parse_pattern-returns-then-is_word-3-clause-reads t c = not_too_deep _ c.if-depth-eq0.false (next_no _ _ c.next_token-t.ensures c.is_int.ensures c.if-is_int.false (next_no _ _ c.next_token-t.ensures c.is_const.ensures c.if-is_const.false (next_no _ _ c.next_token-t.ensures c.is_word.ensures c.if-is_word.false (next_no _ _ c.next_token-t.ensures c.is_word-2.ensures c.if-is_word-2.false (next_yes _ _ c.next_token-t.ensures c.is_word-3.ensures c.if-is_word-3.true (leaf_read _ c.next_token-t.ensures c.leaf_of-then-is_word-3.ensures))))))

pub parse_pattern-returns-then-is_word-3-clause-within : goal.parse_pattern-returns-then-is_word-3-clause-within
parse_pattern-returns-then-is_word-3-clause-within t c = bounded_went 1 1 0 (λ s. pattern-bounded s c.args.depth) (parse_pattern-returns-then-is_word-3-clause-reads t c)

pub parse_pattern-returns-clause-reads : goal.parse_pattern-returns-clause-reads
unfolding pattern_in
parse_pattern-returns-clause-reads t c = not_too_deep _ c.if-depth-eq0.false (next_no _ _ c.next_token-t.ensures c.is_int.ensures c.if-is_int.false (next_no _ _ c.next_token-t.ensures c.is_const.ensures c.if-is_const.false (next_no _ _ c.next_token-t.ensures c.is_word.ensures c.if-is_word.false (next_no _ _ c.next_token-t.ensures c.is_word-2.ensures c.if-is_word-2.false (next_no _ _ c.next_token-t.ensures c.is_word-3.ensures c.if-is_word-3.false (c.parse_compound.ensures.reads))))))

pub parse_pattern-const_node_of-requires-clause-constant : goal.parse_pattern-const_node_of-requires-clause-constant
parse_pattern-const_node_of-requires-clause-constant t c = sym c.is_const.ensures ∙ c.if-is_const.true

pub parse_patterns-loop-p-init : goal.parse_patterns-loop-p-init
parse_patterns-loop-p-init t c = turning_start c.requires

pub parse_patterns-loop-p-preserved : goal.parse_patterns-loop-p-preserved
parse_patterns-loop-p-preserved t c = turning_on c.loop-p.invariant (sym c.at_rparen.ensures ∙ c.loop-p-test.true) c.in_ok-parse_pattern.ensures.reads c.in_ok-parse_pattern.ensures.within

pub parse_patterns-returns-in_err-parse_pattern-clause-reads : goal.parse_patterns-returns-in_err-parse_pattern-clause-reads
parse_patterns-returns-in_err-parse_pattern-clause-reads t c = exit c.from_residual.ensures (plain_row (λ s i. is_rparen (peek s i)) (λ s. parse_pattern s c.args.depth) (turning_stop c.loop-p.invariant (sym c.at_rparen.ensures ∙ c.loop-p-test.true) c.in_err-parse_pattern.ensures.reads))

pub parse_patterns-returns-clause-reads : goal.parse_patterns-returns-clause-reads
parse_patterns-returns-clause-reads t c = plain_row (λ s i. is_rparen (peek s i)) (λ s. parse_pattern s c.args.depth) (turning_end c.loop-p.invariant (sym c.at_rparen.ensures ∙ c.loop-p-test.false))
