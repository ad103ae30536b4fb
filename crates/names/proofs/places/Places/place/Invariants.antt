use Rattle.trees.specs.Names.{spelled}
use Rattle.names.proofs.Laws.{Halving}
use Rattle.names.proofs.places.Places.place.Given as goal

abbrev pub invariant-loop-left : goal.invariant-loop-left
invariant-loop-left l = Halving l.self.names l.self.numbers.now (spelled l.self.names.text.now l.w) l.base l.left

abbrev pub decreases-loop-left : goal.decreases-loop-left
decreases-loop-left l = l.left
