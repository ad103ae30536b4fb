use Rattle.std.proofs.Common.{arith}
use Rattle.forms.proofs.DepthTurns.{enter_level}
use Rattle.forms.proofs.depth.Levels.enter.Goals as goal

pub returns : goal.returns
returns c = enter_level _ _ _ _ _ c.stay.ensures.read (omega arith)
