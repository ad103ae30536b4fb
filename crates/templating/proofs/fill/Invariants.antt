use Rattle.forms.specs.Kinds.{pattern}
use Rattle.templating.proofs.fill.Given as goal

abbrev pub ghost-check : goal.ghost-check
ghost-check a = pattern
