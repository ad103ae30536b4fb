use Rattle.opening.proofs.EndsLaws.{Ending}
use Rattle.opening.proofs.ends.fill_ends.Given as goal

abbrev pub invariant-loop-i : goal.invariant-loop-i
invariant-loop-i l = Ending l.src l.initial.ends l.ends l.i

abbrev pub decreases-loop-i : goal.decreases-loop-i
decreases-loop-i l = l.i
