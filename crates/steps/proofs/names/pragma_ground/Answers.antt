use Rattle.steps.proofs.NameLaws.{pragma_of}
use Rattle.steps.proofs.names.pragma_ground.Goals as goal

pub returns : goal.returns
returns c = pragma_of _ _ _ _ c.check_ident.ensures c.err.ensures.value c.unwrap_or.ensures
