use Rattle.steps.proofs.ReadLaws.{◌▷◌, stop, exit, node_at, node_stopped}
use Rattle.parser.proofs.decls.extern_constructor.Goals as goal

pub returns-in_err-expect_word-clause-reads : goal.returns-in_err-expect_word-clause-reads
returns-in_err-expect_word-clause-reads c = exit c.from_residual.ensures (node_stopped _ _ c.begin-node.ensures.begun (stop _ (stop _ c.in_err-expect_word.ensures.reads)))

pub returns-in_err-parse_ident-clause-reads : goal.returns-in_err-parse_ident-clause-reads
returns-in_err-parse_ident-clause-reads c = exit c.from_residual-in_err-parse_ident.ensures (node_stopped _ _ c.begin-node.ensures.begun (stop _ (c.in_ok-expect_word.ensures.reads ▷ c.in_err-parse_ident.ensures.reads)))

pub returns-in_err-parse_ident-2-clause-reads : goal.returns-in_err-parse_ident-2-clause-reads
returns-in_err-parse_ident-2-clause-reads c = exit c.from_residual-in_err-parse_ident-2.ensures (node_stopped _ _ c.begin-node.ensures.begun (c.in_ok-expect_word.ensures.reads ▷ c.in_ok-parse_ident.ensures.reads ▷ c.in_err-parse_ident-2.ensures.reads))

pub returns-clause-reads : goal.returns-clause-reads
returns-clause-reads c = node_at _ c.begin-node.ensures.start c.begin-node.ensures.begun (c.in_ok-expect_word.ensures.reads ▷ c.in_ok-parse_ident.ensures.reads ▷ c.in_ok-parse_ident-2.ensures.reads) c.close_at.ensures
