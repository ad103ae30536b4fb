use Rattle.replay.proofs.AgreedLaws.{open_store, open_compared}
use Rattle.std.proofs.Common.{rules}
use Rattle.replay.proofs.open_cases.Answered.agrees.Goals as goal

pub returns-then-not-holds : goal.returns-then-not-holds
returns-then-not-holds c = search (open_store, rules)

pub returns : goal.returns
returns c = search (open_compared, rules)
