use Rattle.std.proofs.Common.{◌∙◌, ◌-◌}
use Rattle.steps.specs.Keywords.{word-rule}
use Rattle.steps.specs.Outcome.{ate}
use Rattle.steps.proofs.ReadLaws.{◌▷◌, stop, exit, flagged_read, flagged_stopped}
use Rattle.parser.specs.Defs.{parse_attr}
use Rattle.parser.proofs.DeclLaws.{flag_begun}
use Rattle.parser.proofs.attrs.parse_attr.Goals as goal

pub returns-in_err-parse_ident-clause-reads : goal.returns-in_err-parse_ident-clause-reads
unfolding parse_attr
returns-in_err-parse_ident-clause-reads c = exit c.from_residual.ensures (flagged_stopped _ (λ s i. ate s word-rule i - i) c.begin-node.ensures.begun (stop _ (c.eat-rule.ensures.reads ▷ c.in_err-parse_ident.ensures.reads)))

pub returns-in_err-attr_kind_row-clause-reads : goal.returns-in_err-attr_kind_row-clause-reads
unfolding parse_attr
returns-in_err-attr_kind_row-clause-reads c = exit c.from_residual-in_err-attr_kind_row.ensures (flagged_stopped _ (λ s i. ate s word-rule i - i) c.begin-node.ensures.begun (c.eat-rule.ensures.reads ▷ c.in_ok-parse_ident.ensures.reads ▷ c.in_err-attr_kind_row.ensures.reads))

pub returns-clause-reads : goal.returns-clause-reads
unfolding parse_attr
returns-clause-reads c = flagged_read _ (λ s i. ate s word-rule i - i) (c.from.ensures ∙ flag_begun word-rule c.begin-node.ensures.begun c.eat-rule.ensures.stands) c.begin-node.ensures.start c.begin-node.ensures.begun (c.eat-rule.ensures.reads ▷ c.in_ok-parse_ident.ensures.reads ▷ c.in_ok-attr_kind_row.ensures.reads) c.close_at.ensures
