use Rattle.forms.proofs.DepthTurns.{step_room, step_level, step_plain}
use Rattle.forms.proofs.depth.Levels.read.Goals as goal

pub enter-requires-clause-room : goal.enter-requires-clause-room
enter-requires-clause-room c = step_room _ _ c.if-level.true c.requires.not_too_deep c.args.self.now.open

pub returns-then-level : goal.returns-then-level
returns-then-level c = search step_level

pub returns-else-level : goal.returns-else-level
returns-else-level c = search step_plain
