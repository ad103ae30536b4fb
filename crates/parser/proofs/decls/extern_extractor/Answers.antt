use Rattle.std.proofs.Common.{◌∙◌, ◌+◌, ◌-◌}
use Rattle.steps.specs.Keywords.{word-extractor, word_infallible}
use Rattle.steps.specs.Outcome.{ate}
use Rattle.steps.proofs.ReadLaws.{◌▷◌, stop, exit, flagged_read, flagged_stopped}
use Rattle.parser.proofs.DeclLaws.{flag_behind}
use Rattle.parser.proofs.decls.extern_extractor.Goals as goal

pub returns-in_err-expect_word-clause-reads : goal.returns-in_err-expect_word-clause-reads
returns-in_err-expect_word-clause-reads c = exit c.from_residual.ensures (flagged_stopped _ (λ s i. ate s word_infallible (i + 1) - (i + 1)) c.begin-node.ensures.begun (stop _ (stop _ (stop _ c.in_err-expect_word.ensures.reads))))

pub returns-in_err-parse_ident-clause-reads : goal.returns-in_err-parse_ident-clause-reads
returns-in_err-parse_ident-clause-reads c = exit c.from_residual-in_err-parse_ident.ensures (flagged_stopped _ (λ s i. ate s word_infallible (i + 1) - (i + 1)) c.begin-node.ensures.begun (stop _ (c.in_ok-expect_word.ensures.reads ▷ c.eat-infallible.ensures.reads ▷ c.in_err-parse_ident.ensures.reads)))

pub returns-in_err-parse_ident-2-clause-reads : goal.returns-in_err-parse_ident-2-clause-reads
returns-in_err-parse_ident-2-clause-reads c = exit c.from_residual-in_err-parse_ident-2.ensures (flagged_stopped _ (λ s i. ate s word_infallible (i + 1) - (i + 1)) c.begin-node.ensures.begun (c.in_ok-expect_word.ensures.reads ▷ c.eat-infallible.ensures.reads ▷ c.in_ok-parse_ident.ensures.reads ▷ c.in_err-parse_ident-2.ensures.reads))

pub returns-clause-reads : goal.returns-clause-reads
returns-clause-reads c = flagged_read _ (λ s i. ate s word_infallible (i + 1) - (i + 1)) (c.from.ensures ∙ flag_behind word-extractor word_infallible c.begin-node.ensures.begun c.in_ok-expect_word.ensures.reads c.eat-infallible.ensures.stands) c.begin-node.ensures.start c.begin-node.ensures.begun (c.in_ok-expect_word.ensures.reads ▷ c.eat-infallible.ensures.reads ▷ c.in_ok-parse_ident.ensures.reads ▷ c.in_ok-parse_ident-2.ensures.reads) c.close_at.ensures
