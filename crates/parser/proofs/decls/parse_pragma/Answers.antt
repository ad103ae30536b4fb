use Rattle.parser.specs.Defs.{parse_pragma}
use Rattle.parser.proofs.decls.parse_pragma.Goals as goal

pub returns-clause-reads : goal.returns-clause-reads
unfolding parse_pragma
returns-clause-reads c = c.parse_pragma_name.ensures.reads
