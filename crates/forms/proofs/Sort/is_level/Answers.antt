use Rattle.std.proofs.Common.{inl, inr}
use Rattle.forms.proofs.DepthTurns.{a_level, an_expression, no_level_sort}
use Rattle.forms.proofs.Sort.is_level.Goals as goal

pub returns-in-Pattern : goal.returns-in-Pattern
returns-in-Pattern c = elim c.in-Pattern.is [ inl e ↦ a_level _ e | inr e ↦ an_expression _ e ]

pub returns-in_default : goal.returns-in_default
returns-in_default c = search no_level_sort
