use Rattle.steps.proofs.StepLaws as steps
use Rattle.steps.proofs.ReadLaws.{refused_here}
use Rattle.steps.proofs.Parser.refuse_at.Goals as goal

pub returns : goal.returns
returns c = refused_here (steps.refused_here _ _ c.args.why _ _ c.next_pos.ensures)
