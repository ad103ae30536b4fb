use Rattle.forms.specs.Kinds.{name}
use Rattle.templating.proofs.make.Given as goal

abbrev pub ghost-check : goal.ghost-check
ghost-check a = name
