use Rattle.replay.proofs.CountLaws.{room-counted}
use Rattle.std.proofs.Common.{rules}
use Rattle.replay.proofs.output_cases.Lent.compare_room.Goals as goal

pub returns : goal.returns
returns c = search (room-counted, rules)
