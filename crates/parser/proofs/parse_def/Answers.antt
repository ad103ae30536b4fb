use Rattle.steps.proofs.ReadLaws.{second_yes, second_no}
use Rattle.parser.specs.Defs.{parse_def}
use Rattle.parser.proofs.parse_def.Goals as goal

pub returns-then-is_word-clause-reads : goal.returns-then-is_word-clause-reads
unfolding parse_def
returns-then-is_word-clause-reads c = second_yes _ _ c.second_token-u.ensures c.is_word.ensures c.if-is_word.true (c.parse_worded.ensures.reads)

pub returns-then-is_word-2-clause-reads : goal.returns-then-is_word-2-clause-reads
unfolding parse_def
returns-then-is_word-2-clause-reads c = second_no _ _ c.second_token-u.ensures c.is_word.ensures c.if-is_word.false (second_yes _ _ c.second_token-u.ensures c.is_word-2.ensures c.if-is_word-2.true (c.parse_worded-then-is_word-2.ensures.reads))

pub returns-then-is_word-3-clause-reads : goal.returns-then-is_word-3-clause-reads
unfolding parse_def
returns-then-is_word-3-clause-reads c = second_no _ _ c.second_token-u.ensures c.is_word.ensures c.if-is_word.false (second_no _ _ c.second_token-u.ensures c.is_word-2.ensures c.if-is_word-2.false (second_yes _ _ c.second_token-u.ensures c.is_word-3.ensures c.if-is_word-3.true (c.parse_worded-then-is_word-3.ensures.reads)))

pub returns-then-is_word-4-clause-reads : goal.returns-then-is_word-4-clause-reads
unfolding parse_def
returns-then-is_word-4-clause-reads c = second_no _ _ c.second_token-u.ensures c.is_word.ensures c.if-is_word.false (second_no _ _ c.second_token-u.ensures c.is_word-2.ensures c.if-is_word-2.false (second_no _ _ c.second_token-u.ensures c.is_word-3.ensures c.if-is_word-3.false (second_yes _ _ c.second_token-u.ensures c.is_word-4.ensures c.if-is_word-4.true (c.parse_worded-then-is_word-4.ensures.reads))))

pub returns-clause-reads : goal.returns-clause-reads
unfolding parse_def
returns-clause-reads c = second_no _ _ c.second_token-u.ensures c.is_word.ensures c.if-is_word.false (second_no _ _ c.second_token-u.ensures c.is_word-2.ensures c.if-is_word-2.false (second_no _ _ c.second_token-u.ensures c.is_word-3.ensures c.if-is_word-3.false (second_no _ _ c.second_token-u.ensures c.is_word-4.ensures c.if-is_word-4.false (c.parse_def_rest.ensures.reads))))
