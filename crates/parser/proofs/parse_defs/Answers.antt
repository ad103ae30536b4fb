use lib.Dec.{leb}
use Rattle.tokens.specs.Input.{size}
use Rattle.steps.proofs.ReadLaws.{plain_row}
use Rattle.parser.specs.Defs.{parse_def, parse_defs}
use Rattle.parser.proofs.parse_defs.Goals as goal

pub returns-clause-reads : goal.returns-clause-reads
unfolding parse_defs
returns-clause-reads c = plain_row (λ s i. leb (size s) i) parse_def c.parse_row.ensures.reads

pub returns-clause-same_output : goal.returns-clause-same_output
returns-clause-same_output c = c.parse_row.ensures.reads.same.loan
