use Rattle.std.proofs.Common.{arith}
use Rattle.templates.proofs.FillLaws.{find_start, find_turn, find_end, find_later}
use Rattle.templates.proofs.substituting.find_starts.Goals as goal

pub loop-i-init : goal.loop-i-init
loop-i-init c = search find_start

pub loop-i-smaller : goal.loop-i-smaller
loop-i-smaller c = omega (arith, find_later _ _ _ c.skip-i.ensures (omega arith))

pub loop-i-preserved : goal.loop-i-preserved
loop-i-preserved c = find_turn _ _ _ _ _ c.loop-i.invariant _ c.skip-i.ensures (omega arith) c.requires.room

pub returns : goal.returns
returns c = find_end _ _ _ _ _ c.loop-i.invariant (omega arith) c.requires.room
