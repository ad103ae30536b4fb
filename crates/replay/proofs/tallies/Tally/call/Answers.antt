use Rattle.replay.proofs.CountLaws.{same_count, one_more}
use Rattle.std.proofs.Common.{rules}
use Rattle.replay.proofs.tallies.Tally.call.Goals as goal

pub returns-then-good : goal.returns-then-good
returns-then-good c = search (same_count, rules)

pub returns : goal.returns
returns c = search (one_more, rules)
