use Rattle.std.proofs.Common.{◌+◌}
use Rattle.tokens.specs.Input.{size}
use Rattle.steps.proofs.ReadLaws.{◌▷◌, stop, exit, flagged_read, flagged_stopped}
use Rattle.parser.specs.Types.{modifier_flags, parse_type}
use Rattle.parser.proofs.ModifierLaws.{modifiers_then}
use Rattle.parser.proofs.DeclLaws.{flags_behind}
use Rattle.parser.proofs.types.parse_type.Goals as goal

pub returns-in_err-parse_ident-clause-reads : goal.returns-in_err-parse_ident-clause-reads
unfolding parse_type
returns-in_err-parse_ident-clause-reads c = exit c.from_residual.ensures (flagged_stopped _ (λ s i. modifier_flags s (size s) 0 0 (i + 1)) c.begin-node.ensures.begun (stop _ (stop _ c.in_err-parse_ident.ensures.reads)))

pub returns-in_err-no_modifier-clause-reads : goal.returns-in_err-no_modifier-clause-reads
unfolding parse_type
returns-in_err-no_modifier-clause-reads c = exit c.from_residual-in_err-no_modifier.ensures (flagged_stopped _ (λ s i. modifier_flags s (size s) 0 0 (i + 1)) c.begin-node.ensures.begun (stop _ (c.in_ok-parse_ident.ensures.reads ▷ modifiers_then c.pass_modifiers-flags.ensures c.in_err-no_modifier.ensures)))

pub returns-in_err-parse_typevalue-clause-reads : goal.returns-in_err-parse_typevalue-clause-reads
unfolding parse_type
returns-in_err-parse_typevalue-clause-reads c = exit c.from_residual-in_err-parse_typevalue.ensures (flagged_stopped _ (λ s i. modifier_flags s (size s) 0 0 (i + 1)) c.begin-node.ensures.begun (c.in_ok-parse_ident.ensures.reads ▷ modifiers_then c.pass_modifiers-flags.ensures c.in_ok-no_modifier.ensures ▷ c.in_err-parse_typevalue.ensures.reads))

pub returns-clause-reads : goal.returns-clause-reads
unfolding parse_type
returns-clause-reads c = flagged_read _ (λ s i. modifier_flags s (size s) 0 0 (i + 1)) (flags_behind (λ s. modifier_flags s (size s) 0 0) c.begin-node.ensures.begun c.in_ok-parse_ident.ensures.reads c.pass_modifiers-flags.ensures.flags) c.begin-node.ensures.start c.begin-node.ensures.begun (c.in_ok-parse_ident.ensures.reads ▷ modifiers_then c.pass_modifiers-flags.ensures c.in_ok-no_modifier.ensures ▷ c.in_ok-parse_typevalue.ensures.reads) c.close_at.ensures
