use Rattle.steps.proofs.ReadLaws.{plain_row}
use Rattle.exprs.specs.Expr.{no_iflet, parse_iflet_or_expr}
use Rattle.exprs.proofs.iflets.parse_iflets.Goals as goal

pub returns-clause-reads : goal.returns-clause-reads
returns-clause-reads c = plain_row no_iflet parse_iflet_or_expr c.parse_row.ensures.reads
