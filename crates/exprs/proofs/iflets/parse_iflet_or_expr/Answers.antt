use Rattle.steps.proofs.ReadLaws.{next_yes, next_no, second_yes, second_no}
use Rattle.exprs.specs.Expr.{parse_iflet_or_expr}
use Rattle.exprs.proofs.iflets.parse_iflet_or_expr.Goals as goal

pub returns-then-is_word-clause-reads : goal.returns-then-is_word-clause-reads
unfolding parse_iflet_or_expr
returns-then-is_word-clause-reads c = next_yes _ _ c.next_token.ensures c.is_lparen.ensures c.if-is_lparen.true (second_yes _ _ c.second_token-u.ensures c.is_word.ensures c.if-is_word.true c.parse_worded.ensures.reads)

pub returns-then-is_word-2-clause-reads : goal.returns-then-is_word-2-clause-reads
unfolding parse_iflet_or_expr
returns-then-is_word-2-clause-reads c = next_yes _ _ c.next_token.ensures c.is_lparen.ensures c.if-is_lparen.true (second_no _ _ c.second_token-u.ensures c.is_word.ensures c.if-is_word.false (second_yes _ _ c.second_token-u.ensures c.is_word-then-is_lparen.ensures c.if-is_word-2.true c.parse_worded-then-is_word-2.ensures.reads))

pub returns-then-is_lparen-clause-reads : goal.returns-then-is_lparen-clause-reads
unfolding parse_iflet_or_expr
returns-then-is_lparen-clause-reads c = next_yes _ _ c.next_token.ensures c.is_lparen.ensures c.if-is_lparen.true (second_no _ _ c.second_token-u.ensures c.is_word.ensures c.if-is_word.false (second_no _ _ c.second_token-u.ensures c.is_word-then-is_lparen.ensures c.if-is_word-2.false c.parse_expr.ensures.reads))

pub returns-clause-reads : goal.returns-clause-reads
unfolding parse_iflet_or_expr
returns-clause-reads c = next_no _ _ c.next_token.ensures c.is_lparen.ensures c.if-is_lparen.false c.parse_expr-2.ensures.reads
