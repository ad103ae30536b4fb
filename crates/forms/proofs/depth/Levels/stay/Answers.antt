use Rattle.std.proofs.Common.{arith}
use Rattle.forms.proofs.DepthTurns.{stay_none, stay_fits, stay_some}
use Rattle.forms.proofs.depth.Levels.stay.Goals as goal

pub overflow_add-self : goal.overflow_add-self
overflow_add-self c = search stay_fits

pub returns-then-self-ne0-clause-read : goal.returns-then-self-ne0-clause-read
returns-then-self-ne0-clause-read c = stay_some _ _ _ _ c.saturating_sub.ensures c.if-self-ne0.true (omega arith)

pub returns-else-self-ne0-clause-read : goal.returns-else-self-ne0-clause-read
returns-else-self-ne0-clause-read c = search stay_none
