use Rattle.std.proofs.Common.{rules}
use Rattle.forms.proofs.DepthTurns.{row_level}
use Rattle.forms.proofs.depth.is_level.Goals as goal

pub returns : goal.returns
returns c = row_level _ _ _ _ _ c.row_of.ensures c.is_some_and.ensures (λ w p. search rules)
