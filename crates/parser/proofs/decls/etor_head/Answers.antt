use Rattle.steps.proofs.ReadLaws.{◌▷◌, stop, exit}
use Rattle.parser.specs.Defs.{etor_head}
use Rattle.parser.proofs.decls.etor_head.Goals as goal

pub returns-in_err-expect_lparen-clause-reads : goal.returns-in_err-expect_lparen-clause-reads
unfolding etor_head
returns-in_err-expect_lparen-clause-reads c = exit c.from_residual.ensures (stop _ (stop _ (stop _ c.in_err-expect_lparen.ensures.reads)))

pub returns-in_err-parse_ident-clause-reads : goal.returns-in_err-parse_ident-clause-reads
unfolding etor_head
returns-in_err-parse_ident-clause-reads c = exit c.from_residual-in_err-parse_ident.ensures (stop _ (stop _ (c.in_ok-expect_lparen.ensures.reads ▷ c.in_err-parse_ident.ensures.reads)))

pub returns-in_err-parse_idents-clause-reads : goal.returns-in_err-parse_idents-clause-reads
unfolding etor_head
returns-in_err-parse_idents-clause-reads c = exit c.from_residual-in_err-parse_idents.ensures (stop _ (c.in_ok-expect_lparen.ensures.reads ▷ c.in_ok-parse_ident.ensures.reads ▷ c.in_err-parse_idents.ensures.reads))

pub returns-clause-reads : goal.returns-clause-reads
unfolding etor_head
returns-clause-reads c = c.in_ok-expect_lparen.ensures.reads ▷ c.in_ok-parse_ident.ensures.reads ▷ c.in_ok-parse_idents.ensures.reads ▷ c.expect_rparen.ensures.reads
