use Rattle.trees.specs.Names.{spelled}
use Rattle.names.specs.Order.{NoneBefore}
use Rattle.names.proofs.row.Names.seek.Given as goal

abbrev pub invariant-loop-k : goal.invariant-loop-k
invariant-loop-k l = NoneBefore l.self (spelled l.self.text.now l.w) l.k
