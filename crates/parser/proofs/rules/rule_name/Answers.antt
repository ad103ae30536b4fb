use Rattle.steps.proofs.ReadLaws.{nothing_read, next_yes, next_no, second_yes, second_no, bounded_went}
use Rattle.parser.specs.Defs.{rule_name}
use Rattle.parser.proofs.RuleLaws.{name-bounded}
use Rattle.parser.proofs.rules.rule_name.Goals as goal

pub returns-then-is_refused-clause-reads : goal.returns-then-is_refused-clause-reads
unfolding rule_name
returns-then-is_refused-clause-reads c = next_yes _ _ c.next_token.ensures c.is_symbol.ensures c.if-is_symbol.true (second_yes _ _ c.second_token.ensures c.is_refused.ensures c.if-is_refused.true c.refuse_after.ensures)

pub returns-then-is_refused-clause-within : goal.returns-then-is_refused-clause-within
returns-then-is_refused-clause-within c = bounded_went 0 0 0 name-bounded (returns-then-is_refused-clause-reads c)

pub returns-then-is_symbol-clause-reads : goal.returns-then-is_symbol-clause-reads
unfolding rule_name
returns-then-is_symbol-clause-reads c = next_yes _ _ c.next_token.ensures c.is_symbol.ensures c.if-is_symbol.true (second_no _ _ c.second_token.ensures c.is_refused.ensures c.if-is_refused.false c.parse_name_on.ensures.reads)

pub returns-clause-reads : goal.returns-clause-reads
unfolding rule_name
returns-clause-reads c = next_no _ _ c.next_token.ensures c.is_symbol.ensures c.if-is_symbol.false (nothing_read)
