use Rattle.steps.proofs.StepLaws.{kind_second}
use Rattle.steps.proofs.Parser.second_kind.Goals as goal

pub returns : goal.returns
returns c = kind_second _ _ _ _ _ c.kind_at.ensures c.after.ensures
