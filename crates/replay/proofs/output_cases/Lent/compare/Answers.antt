use Rattle.replay.proofs.CountLaws.{case-counted}
use Rattle.std.proofs.Common.{rules}
use Rattle.replay.proofs.output_cases.Lent.compare.Goals as goal

pub returns : goal.returns
returns c = search (case-counted, rules)
