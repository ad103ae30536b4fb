use Rattle.steps.proofs.ReadLaws.{◌▷◌, stop, exit}
use Rattle.parser.specs.Defs.{rule_parts}
use Rattle.parser.proofs.rules.rule_parts.Goals as goal

pub returns-in_err-rule_head-clause-reads : goal.returns-in_err-rule_head-clause-reads
unfolding rule_parts
returns-in_err-rule_head-clause-reads c = exit c.from_residual.ensures (stop _ (stop _ (stop _ c.in_err-rule_head.ensures.reads)))

pub returns-in_err-parse_pattern-clause-reads : goal.returns-in_err-parse_pattern-clause-reads
unfolding rule_parts
returns-in_err-parse_pattern-clause-reads c = exit c.from_residual-in_err-parse_pattern.ensures (stop _ (stop _ (c.in_ok-rule_head.ensures.reads ▷ c.in_err-parse_pattern.ensures.reads)))

pub returns-in_err-parse_iflets-clause-reads : goal.returns-in_err-parse_iflets-clause-reads
unfolding rule_parts
returns-in_err-parse_iflets-clause-reads c = exit c.from_residual-in_err-parse_iflets.ensures (stop _ (c.in_ok-rule_head.ensures.reads ▷ c.in_ok-parse_pattern.ensures.reads ▷ c.in_err-parse_iflets.ensures.reads))

pub returns-clause-reads : goal.returns-clause-reads
unfolding rule_parts
returns-clause-reads c = c.in_ok-rule_head.ensures.reads ▷ c.in_ok-parse_pattern.ensures.reads ▷ c.in_ok-parse_iflets.ensures.reads ▷ c.parse_iflet_or_expr.ensures.reads
