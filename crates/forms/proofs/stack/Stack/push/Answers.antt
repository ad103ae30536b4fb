use Rattle.std.proofs.Common.{refl}
use Rattle.forms.proofs.StackLaws.{pushed}
use Rattle.forms.proofs.stack.Stack.push.Goals as goal

pub returns : goal.returns
returns c = pushed _ _ _ (refl, refl) c.requires
