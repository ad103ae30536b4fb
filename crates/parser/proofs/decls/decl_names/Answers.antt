use Rattle.steps.proofs.ReadLaws.{◌▷◌, stop, exit}
use Rattle.parser.specs.Defs.{decl_names}
use Rattle.parser.proofs.decls.decl_names.Goals as goal

pub returns-in_err-parse_ident-clause-reads : goal.returns-in_err-parse_ident-clause-reads
unfolding decl_names
returns-in_err-parse_ident-clause-reads c = exit c.from_residual.ensures (stop _ (stop _ (stop _ (stop _ c.in_err-parse_ident.ensures.reads))))

pub returns-in_err-expect_lparen-clause-reads : goal.returns-in_err-expect_lparen-clause-reads
unfolding decl_names
returns-in_err-expect_lparen-clause-reads c = exit c.from_residual-in_err-expect_lparen.ensures (stop _ (stop _ (stop _ (c.in_ok-parse_ident.ensures.reads ▷ c.in_err-expect_lparen.ensures.reads))))

pub returns-in_err-parse_idents-clause-reads : goal.returns-in_err-parse_idents-clause-reads
unfolding decl_names
returns-in_err-parse_idents-clause-reads c = exit c.from_residual-in_err-parse_idents.ensures (stop _ (stop _ (c.in_ok-parse_ident.ensures.reads ▷ c.in_ok-expect_lparen.ensures.reads ▷ c.in_err-parse_idents.ensures.reads)))

pub returns-in_err-expect_rparen-clause-reads : goal.returns-in_err-expect_rparen-clause-reads
unfolding decl_names
returns-in_err-expect_rparen-clause-reads c = exit c.from_residual-in_err-expect_rparen.ensures (stop _ (c.in_ok-parse_ident.ensures.reads ▷ c.in_ok-expect_lparen.ensures.reads ▷ c.in_ok-parse_idents.ensures.reads ▷ c.in_err-expect_rparen.ensures.reads))

pub returns-clause-reads : goal.returns-clause-reads
unfolding decl_names
returns-clause-reads c = c.in_ok-parse_ident.ensures.reads ▷ c.in_ok-expect_lparen.ensures.reads ▷ c.in_ok-parse_idents.ensures.reads ▷ c.in_ok-expect_rparen.ensures.reads ▷ c.parse_ident-2.ensures.reads
