use Rattle.steps.proofs.ReadLaws.{◌▷◌, stop, exit, node_at, node_stopped}
use Rattle.parser.proofs.types.variant_parens.Goals as goal

pub returns-in_err-expect_lparen-clause-reads : goal.returns-in_err-expect_lparen-clause-reads
returns-in_err-expect_lparen-clause-reads c = exit c.from_residual.ensures (node_stopped _ _ c.begin-node.ensures.begun (stop _ (stop _ (stop _ c.in_err-expect_lparen.ensures.reads))))

pub returns-in_err-parse_ident-clause-reads : goal.returns-in_err-parse_ident-clause-reads
returns-in_err-parse_ident-clause-reads c = exit c.from_residual-in_err-parse_ident.ensures (node_stopped _ _ c.begin-node.ensures.begun (stop _ (stop _ (c.in_ok-expect_lparen.ensures.reads ▷ c.in_err-parse_ident.ensures.reads))))

pub returns-in_err-parse_fields-clause-reads : goal.returns-in_err-parse_fields-clause-reads
returns-in_err-parse_fields-clause-reads c = exit c.from_residual-in_err-parse_fields.ensures (node_stopped _ _ c.begin-node.ensures.begun (stop _ (c.in_ok-expect_lparen.ensures.reads ▷ c.in_ok-parse_ident.ensures.reads ▷ c.in_err-parse_fields.ensures.reads)))

pub returns-in_err-expect_rparen-clause-reads : goal.returns-in_err-expect_rparen-clause-reads
returns-in_err-expect_rparen-clause-reads c = exit c.from_residual-in_err-expect_rparen.ensures (node_stopped _ _ c.begin-node.ensures.begun (c.in_ok-expect_lparen.ensures.reads ▷ c.in_ok-parse_ident.ensures.reads ▷ c.in_ok-parse_fields.ensures.reads ▷ c.in_err-expect_rparen.ensures.reads))

pub returns-clause-reads : goal.returns-clause-reads
returns-clause-reads c = node_at _ c.begin-node.ensures.start c.begin-node.ensures.begun (c.in_ok-expect_lparen.ensures.reads ▷ c.in_ok-parse_ident.ensures.reads ▷ c.in_ok-parse_fields.ensures.reads ▷ c.in_ok-expect_rparen.ensures.reads) c.close_at.ensures
