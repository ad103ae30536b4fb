use Rattle.std.proofs.Common.{refl}
use Rattle.templates.proofs.WriteLaws.{wrote_one, wrote_full, same_put}
use Rattle.templates.proofs.output.Output.append.Goals as goal

pub returns-then-self-clause-wrote : goal.returns-then-self-clause-wrote
returns-then-self-clause-wrote c = search wrote_full

pub returns-clause-wrote : goal.returns-clause-wrote
returns-clause-wrote c = wrote_one _ _ _ c.if-self.false (refl, refl, refl) c.put.ensures

pub returns-clause-same : goal.returns-clause-same
returns-clause-same c = same_put _ _ _ (refl, refl) c.put.ensures
