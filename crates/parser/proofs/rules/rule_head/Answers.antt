use Rattle.steps.proofs.ReadLaws.{◌▷◌, stop, exit}
use Rattle.parser.proofs.rules.rule_head.Goals as goal

pub returns-in_err-rule_name-clause-reads : goal.returns-in_err-rule_name-clause-reads
returns-in_err-rule_name-clause-reads c = exit c.from_residual.ensures (stop _ c.in_err-rule_name.ensures.reads)

pub returns-clause-reads : goal.returns-clause-reads
returns-clause-reads c = c.in_ok-rule_name.ensures.reads ▷ c.rule_priority.ensures.reads
