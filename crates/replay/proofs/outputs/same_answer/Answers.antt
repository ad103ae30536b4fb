use Rattle.replay.proofs.AgreedLaws.{other-number, same_number}
use Rattle.std.proofs.Common.{rules}
use Rattle.replay.proofs.outputs.same_answer.Goals as goal

pub returns-then-number-answer : goal.returns-then-number-answer
returns-then-number-answer c = search (other-number, rules)

pub returns : goal.returns
returns c = search (same_number, rules)
