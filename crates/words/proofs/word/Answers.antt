use mathlib.Core.Path.{◌∙◌}
use Rattle.words.proofs.Laws.{word-is}
use Rattle.words.proofs.word.Goals as goal

pub returns : goal.returns
returns c = c.from_be_bytes.ensures ∙ word-is c.args.s.now c.args.at
