use Rattle.steps.proofs.NameLaws.{named_nonempty}
use Rattle.steps.proofs.Parser.put_const.Goals as goal

pub put_ident-requires-clause-nonempty : goal.put_ident-requires-clause-nonempty
put_ident-requires-clause-nonempty c = named_nonempty _ _ _ c.cut_dollar-name.ensures
