use mathlib.Core.Path.{◌∙◌}
use native.Mathlib.Omega.{arith}
use Rattle.words.proofs.Laws.{word-put}
use Rattle.words.proofs.put_word.Goals as goal

pub returns : goal.returns
returns c = word-put _ _ _ _ _ c.requires (omega arith) (c.copy_from_slice.ensures.after ∙ c.to_be_bytes.ensures)
