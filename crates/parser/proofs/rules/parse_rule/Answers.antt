use Rattle.steps.proofs.ReadLaws.{exit, flagged_read, flagged_stopped}
use Rattle.parser.specs.Defs.{rule_flags, parse_rule}
use Rattle.parser.proofs.RuleLaws.{parts_at}
use Rattle.parser.proofs.rules.parse_rule.Goals as goal

pub returns-in_err-rule_parts-clause-reads : goal.returns-in_err-rule_parts-clause-reads
unfolding parse_rule
returns-in_err-rule_parts-clause-reads c = exit c.from_residual.ensures (flagged_stopped _ rule_flags c.begin-node.ensures.begun (parts_at _ c.next_pos-place.ensures c.begin-node.ensures.begun c.in_err-rule_parts.ensures.reads))

pub returns-clause-reads : goal.returns-clause-reads
unfolding parse_rule
returns-clause-reads c = flagged_read _ rule_flags c.rule_flags-flags.ensures c.begin-node.ensures.start c.begin-node.ensures.begun (parts_at _ c.next_pos-place.ensures c.begin-node.ensures.begun c.in_ok-rule_parts.ensures.reads) c.close_at.ensures
