use Rattle.steps.proofs.ReadLaws.{bounded_on}
use Rattle.steps.proofs.ReadLaws.{◌▷◌, stop, exit, next_yes, next_no}
use Rattle.parser.specs.Defs.{parse_extern}
use Rattle.parser.proofs.DeclLaws.{extern_bounded}
use Rattle.parser.proofs.decls.parse_extern.Goals as goal

pub returns-then-is_word-clause-reads : goal.returns-then-is_word-clause-reads
unfolding parse_extern
returns-then-is_word-clause-reads c = next_yes _ _ c.next_token-t.ensures c.is_word.ensures c.if-is_word.true (c.extern_constructor.ensures.reads)

pub returns-then-is_word-2-clause-reads : goal.returns-then-is_word-2-clause-reads
unfolding parse_extern
returns-then-is_word-2-clause-reads c = next_no _ _ c.next_token-t.ensures c.is_word.ensures c.if-is_word.false (next_yes _ _ c.next_token-t.ensures c.is_word-2.ensures c.if-is_word-2.true (c.extern_extractor.ensures.reads))

pub returns-then-is_word-3-clause-reads : goal.returns-then-is_word-3-clause-reads
unfolding parse_extern
returns-then-is_word-3-clause-reads c = next_no _ _ c.next_token-t.ensures c.is_word.ensures c.if-is_word.false (next_no _ _ c.next_token-t.ensures c.is_word-2.ensures c.if-is_word-2.false (next_yes _ _ c.next_token-t.ensures c.is_word-3.ensures c.if-is_word-3.true (c.in_ok-expect_word.ensures.reads ▷ c.extern_const.ensures.reads)))

pub returns-clause-reads : goal.returns-clause-reads
unfolding parse_extern
returns-clause-reads c = next_no _ _ c.next_token-t.ensures c.is_word.ensures c.if-is_word.false (next_no _ _ c.next_token-t.ensures c.is_word-2.ensures c.if-is_word-2.false (next_no _ _ c.next_token-t.ensures c.is_word-3.ensures c.if-is_word-3.false c.refuse_at.ensures))

pub returns-in_err-expect_word-clause-reads : goal.returns-in_err-expect_word-clause-reads
unfolding parse_extern
returns-in_err-expect_word-clause-reads c = exit c.from_residual.ensures (next_no _ _ c.next_token-t.ensures c.is_word.ensures c.if-is_word.false (next_no _ _ c.next_token-t.ensures c.is_word-2.ensures c.if-is_word-2.false (next_yes _ _ c.next_token-t.ensures c.is_word-3.ensures c.if-is_word-3.true (stop _ c.in_err-expect_word.ensures.reads))))

pub returns-clause-within : goal.returns-clause-within
returns-clause-within c = bounded_on extern_bounded (returns-clause-reads c)
