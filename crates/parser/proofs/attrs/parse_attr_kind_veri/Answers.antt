use Rattle.steps.proofs.ReadLaws.{bounded_on}
use Rattle.steps.proofs.ReadLaws.{next_yes, next_no}
use Rattle.parser.specs.Defs.{parse_attr_kind_veri}
use Rattle.parser.proofs.DefLaws.{veri_bounded}
use Rattle.parser.proofs.attrs.parse_attr_kind_veri.Goals as goal

pub returns-then-is_word-clause-reads : goal.returns-then-is_word-clause-reads
unfolding parse_attr_kind_veri
returns-then-is_word-clause-reads c = next_yes _ _ c.next_token-t.ensures c.is_word.ensures c.if-is_word.true (c.word_kind.ensures.reads)

pub returns-then-is_word-2-clause-reads : goal.returns-then-is_word-2-clause-reads
unfolding parse_attr_kind_veri
returns-then-is_word-2-clause-reads c = next_no _ _ c.next_token-t.ensures c.is_word.ensures c.if-is_word.false (next_yes _ _ c.next_token-t.ensures c.is_word-2.ensures c.if-is_word-2.true (c.word_kind-then-is_word-2.ensures.reads))

pub returns-clause-reads : goal.returns-clause-reads
unfolding parse_attr_kind_veri
returns-clause-reads c = next_no _ _ c.next_token-t.ensures c.is_word.ensures c.if-is_word.false (next_no _ _ c.next_token-t.ensures c.is_word-2.ensures c.if-is_word-2.false c.refuse_after.ensures)

pub returns-clause-within : goal.returns-clause-within
returns-clause-within c = bounded_on veri_bounded (returns-clause-reads c)
