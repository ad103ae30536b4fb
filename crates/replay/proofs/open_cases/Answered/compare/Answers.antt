use Rattle.replay.proofs.CountLaws.{opening-counted}
use Rattle.std.proofs.Common.{rules}
use Rattle.replay.proofs.open_cases.Answered.compare.Goals as goal

pub returns : goal.returns
returns c = search (opening-counted, rules)
