use Rattle.std.proofs.Common.{◌∙◌}
use Rattle.words.proofs.SameLaws.{same_is}
use Rattle.words.proofs.same.Goals as goal

pub returns : goal.returns
returns c = c.eq.ensures ∙ same_is _ _
