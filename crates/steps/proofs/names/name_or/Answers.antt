use Rattle.std.proofs.Common.{rules}
use Rattle.steps.proofs.NameLaws.{named_or}
use Rattle.steps.proofs.names.name_or.Goals as goal

pub returns : goal.returns
returns c = named_or _ _ _ _ c.args.why _ c.ident_name.ensures c.map_err.ensures.cases (λ e g k. search rules)
