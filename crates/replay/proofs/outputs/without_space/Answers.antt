use Rattle.replay.proofs.CountLaws.{no_space, refused_anyway}
use Rattle.std.proofs.Common.{rules}
use Rattle.replay.proofs.outputs.without_space.Goals as goal

pub returns-then-answer-lt72057594037927936 : goal.returns-then-answer-lt72057594037927936
returns-then-answer-lt72057594037927936 c = search (no_space, rules)

pub returns : goal.returns
returns c = search (refused_anyway, rules)
