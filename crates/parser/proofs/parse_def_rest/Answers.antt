use Rattle.steps.proofs.ReadLaws.{second_yes, second_no}
use Rattle.parser.specs.Defs.{rest_def}
use Rattle.parser.proofs.parse_def_rest.Goals as goal

pub returns-then-is_word-clause-reads : goal.returns-then-is_word-clause-reads
unfolding rest_def
returns-then-is_word-clause-reads c = second_yes _ _ c.requires.second c.is_word.ensures c.if-is_word.true (c.parse_worded.ensures.reads)

pub returns-then-is_word-2-clause-reads : goal.returns-then-is_word-2-clause-reads
unfolding rest_def
returns-then-is_word-2-clause-reads c = second_no _ _ c.requires.second c.is_word.ensures c.if-is_word.false (second_yes _ _ c.requires.second c.is_word-2.ensures c.if-is_word-2.true (c.parse_worded-then-is_word-2.ensures.reads))

pub returns-then-is_word-3-clause-reads : goal.returns-then-is_word-3-clause-reads
unfolding rest_def
returns-then-is_word-3-clause-reads c = second_no _ _ c.requires.second c.is_word.ensures c.if-is_word.false (second_no _ _ c.requires.second c.is_word-2.ensures c.if-is_word-2.false (second_yes _ _ c.requires.second c.is_word-3.ensures c.if-is_word-3.true (c.parse_worded-then-is_word-3.ensures.reads)))

pub returns-then-is_word-4-clause-reads : goal.returns-then-is_word-4-clause-reads
unfolding rest_def
returns-then-is_word-4-clause-reads c = second_no _ _ c.requires.second c.is_word.ensures c.if-is_word.false (second_no _ _ c.requires.second c.is_word-2.ensures c.if-is_word-2.false (second_no _ _ c.requires.second c.is_word-3.ensures c.if-is_word-3.false (second_yes _ _ c.requires.second c.is_word-4.ensures c.if-is_word-4.true (c.parse_worded-then-is_word-4.ensures.reads))))

pub returns-clause-reads : goal.returns-clause-reads
unfolding rest_def
returns-clause-reads c = second_no _ _ c.requires.second c.is_word.ensures c.if-is_word.false (second_no _ _ c.requires.second c.is_word-2.ensures c.if-is_word-2.false (second_no _ _ c.requires.second c.is_word-3.ensures c.if-is_word-3.false (second_no _ _ c.requires.second c.is_word-4.ensures c.if-is_word-4.false c.other_def.ensures.reads)))
