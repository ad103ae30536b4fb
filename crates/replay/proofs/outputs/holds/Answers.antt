use Rattle.replay.proofs.HeldLaws.{held-long, held_same, held-other}
use Rattle.std.proofs.Common.{rules}
use Rattle.replay.proofs.outputs.holds.Goals as goal

pub returns-then-out-n : goal.returns-then-out-n
returns-then-out-n c = search (held-long, rules)

pub returns-then-not-same : goal.returns-then-not-same
returns-then-not-same c = search held-other

pub returns : goal.returns
returns c = search held_same
