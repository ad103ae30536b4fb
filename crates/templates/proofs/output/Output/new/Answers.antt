use Rattle.templates.proofs.WriteLaws.{empty_at}
use Rattle.templates.proofs.output.Output.new.Goals as goal

pub returns-clause-empty : goal.returns-clause-empty
returns-clause-empty c = search empty_at
