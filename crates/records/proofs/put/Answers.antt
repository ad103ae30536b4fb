use Rattle.records.specs.Slots.{put, word0}
use borrow.Author.Rules.{rules}
use Rattle.records.proofs.put.Goals as goal

pub returns : goal.returns
unfolding put word0
returns c = search rules
