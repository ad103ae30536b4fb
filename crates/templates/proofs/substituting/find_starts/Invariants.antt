use Rattle.std.proofs.Common.{◌-◌}
use Rattle.templates.proofs.FillLaws.{Finding}
use Rattle.templates.proofs.substituting.find_starts.Given as goal

abbrev pub invariant-loop-i : goal.invariant-loop-i
invariant-loop-i l = Finding l.patterns l.initial.starts l.starts l.n l.i

abbrev pub decreases-loop-i : goal.decreases-loop-i
decreases-loop-i l = l.end - l.i
