use Rattle.opening.proofs.MadeLaws.{sought_named}
use Rattle.opening.proofs.made.parameter.Goals as goal

pub returns : goal.returns
returns c = sought_named _ c.args.w c.requires c.seek.result c.seek.ensures
