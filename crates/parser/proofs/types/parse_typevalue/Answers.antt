use Rattle.steps.proofs.ReadLaws.{bounded_on}
use Rattle.steps.proofs.ReadLaws.{second_yes, second_no}
use Rattle.parser.specs.Types.{parse_typevalue}
use Rattle.parser.proofs.TypeLaws.{typevalue_bounded}
use Rattle.parser.proofs.types.parse_typevalue.Goals as goal

pub returns-then-is_word-clause-reads : goal.returns-then-is_word-clause-reads
unfolding parse_typevalue
returns-then-is_word-clause-reads c = second_yes _ _ c.second_token-u.ensures c.is_word.ensures c.if-is_word.true (c.value.ensures.reads)

pub returns-then-is_word-2-clause-reads : goal.returns-then-is_word-2-clause-reads
unfolding parse_typevalue
returns-then-is_word-2-clause-reads c = second_no _ _ c.second_token-u.ensures c.is_word.ensures c.if-is_word.false (second_yes _ _ c.second_token-u.ensures c.is_word-2.ensures c.if-is_word-2.true (c.value-then-is_word-2.ensures.reads))

pub returns-then-is_word-3-clause-reads : goal.returns-then-is_word-3-clause-reads
unfolding parse_typevalue
returns-then-is_word-3-clause-reads c = second_no _ _ c.second_token-u.ensures c.is_word.ensures c.if-is_word.false (second_no _ _ c.second_token-u.ensures c.is_word-2.ensures c.if-is_word-2.false (second_yes _ _ c.second_token-u.ensures c.is_word-3.ensures c.if-is_word-3.true (c.value-then-is_word-3.ensures.reads)))

pub returns-clause-reads : goal.returns-clause-reads
unfolding parse_typevalue
returns-clause-reads c = second_no _ _ c.second_token-u.ensures c.is_word.ensures c.if-is_word.false (second_no _ _ c.second_token-u.ensures c.is_word-2.ensures c.if-is_word-2.false (second_no _ _ c.second_token-u.ensures c.is_word-3.ensures c.if-is_word-3.false c.refuse_after.ensures))

pub returns-clause-within : goal.returns-clause-within
returns-clause-within c = bounded_on typevalue_bounded (returns-clause-reads c)
