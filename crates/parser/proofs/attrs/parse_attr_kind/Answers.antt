use Rattle.steps.proofs.ReadLaws.{bounded_on}
use Rattle.steps.proofs.ReadLaws.{◌▷◌, stop, exit, second_yes, second_no}
use Rattle.parser.specs.Defs.{parse_attr_kind}
use Rattle.parser.proofs.DefLaws.{attr_kind_bounded}
use Rattle.parser.proofs.attrs.parse_attr_kind.Goals as goal

pub returns-then-is_word-clause-reads : goal.returns-then-is_word-clause-reads
unfolding parse_attr_kind
returns-then-is_word-clause-reads c = second_yes _ _ c.second_token-u.ensures c.is_word.ensures c.if-is_word.true (c.parse_worded.ensures.reads)

pub returns-then-is_word-2-clause-reads : goal.returns-then-is_word-2-clause-reads
unfolding parse_attr_kind
returns-then-is_word-2-clause-reads c = second_no _ _ c.second_token-u.ensures c.is_word.ensures c.if-is_word.false (second_yes _ _ c.second_token-u.ensures c.is_word-2.ensures c.if-is_word-2.true (c.parse_worded-then-is_word-2.ensures.reads))

pub returns-clause-reads : goal.returns-clause-reads
unfolding parse_attr_kind
returns-clause-reads c = second_no _ _ c.second_token-u.ensures c.is_word.ensures c.if-is_word.false (second_no _ _ c.second_token-u.ensures c.is_word-2.ensures c.if-is_word-2.false (c.in_ok-expect_lparen.ensures.reads ▷ c.refuse_after.ensures))

pub returns-in_err-expect_lparen-clause-reads : goal.returns-in_err-expect_lparen-clause-reads
unfolding parse_attr_kind
returns-in_err-expect_lparen-clause-reads c = exit c.from_residual.ensures (second_no _ _ c.second_token-u.ensures c.is_word.ensures c.if-is_word.false (second_no _ _ c.second_token-u.ensures c.is_word-2.ensures c.if-is_word-2.false (stop _ c.in_err-expect_lparen.ensures.reads)))

pub returns-clause-within : goal.returns-clause-within
returns-clause-within c = bounded_on attr_kind_bounded (returns-clause-reads c)
