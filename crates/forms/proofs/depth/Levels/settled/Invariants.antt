use Rattle.std.proofs.Common.{◌≡◌}
use Rattle.forms.specs.Stack.{pending}
use Rattle.forms.specs.Depth.{settle}
use Rattle.forms.proofs.depth.Levels.settled.Given as goal

abbrev pub invariant-loop-d : goal.invariant-loop-d
invariant-loop-d l = settle (pending l.self.counts l.d) ≡ settle (pending l.self.counts l.self.depth)
