use Rattle.forms.proofs.JudgeLaws.{singles_are}
use Rattle.forms.proofs.Row.singles.Goals as goal

pub returns : goal.returns
returns c = search singles_are
