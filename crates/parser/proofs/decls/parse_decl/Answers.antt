use Rattle.parser.proofs.DeclLaws.{flags_begun}
use Rattle.steps.proofs.ReadLaws.{◌▷◌, exit, flagged_read, flagged_stopped}
use Rattle.parser.specs.Defs.{decl_flags, parse_decl}
use Rattle.parser.proofs.decls.parse_decl.Goals as goal

pub returns-in_err-decl_names-clause-reads : goal.returns-in_err-decl_names-clause-reads
unfolding parse_decl
returns-in_err-decl_names-clause-reads c = exit c.from_residual.ensures (flagged_stopped _ decl_flags c.begin-node.ensures.begun (c.decl_modifiers-flags.ensures.reads ▷ c.in_err-decl_names.ensures.reads))

pub returns-clause-reads : goal.returns-clause-reads
unfolding parse_decl
returns-clause-reads c = flagged_read _ decl_flags (flags_begun decl_flags c.begin-node.ensures.begun c.decl_modifiers-flags.ensures.flags) c.begin-node.ensures.start c.begin-node.ensures.begun (c.decl_modifiers-flags.ensures.reads ▷ c.in_ok-decl_names.ensures.reads) c.close_at.ensures
