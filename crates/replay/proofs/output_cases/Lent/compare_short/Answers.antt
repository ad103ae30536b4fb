use Rattle.replay.proofs.CountLaws.{short_none, short-counted}
use Rattle.std.proofs.Common.{rules}
use Rattle.replay.proofs.output_cases.Lent.compare_short.Goals as goal

pub returns-then-size-eq0 : goal.returns-then-size-eq0
returns-then-size-eq0 c = search (short_none, rules)

pub returns : goal.returns
returns c = search (short-counted, rules)
