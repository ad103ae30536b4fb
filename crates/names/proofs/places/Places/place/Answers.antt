use Rattle.std.proofs.Common.{◌≡◌, ◌+◌, ◌/◌, arith}
use Rattle.trees.specs.Choice.{pick}
use Rattle.names.proofs.Laws.{halving_turn, halving_end}
use Rattle.names.proofs.places.Places.place.Goals as goal
use Rattle.names.proofs.places.Places.place.Goals.{then-not-stands_before, else-not-stands_before}

pub loop-left-preserved : goal.loop-left-preserved
loop-left-preserved c =
    let picked : c.if-not-stands_before.base ≡ pick c.stands_before.result c.loop-left.base (c.loop-left.base + c.loop-left.left / 2) =
    elim c.if-not-stands_before.branch [ then-not-stands_before w ↦ grind arith | else-not-stands_before w ↦ grind arith ] in
    halving_turn _ _ _ _ _ _ _ c.loop-left.invariant c.loop-left-test.true c.stands_before.ensures picked

pub returns-clause-by_halves : goal.returns-clause-by_halves
returns-clause-by_halves c = search halving_end
