use Rattle.std.proofs.Common.{◌-◌}
use Rattle.templates.specs.Writing.{Reaches}
use Rattle.templates.specs.Scans.{making_from}
use Rattle.templates.proofs.making.Making.append.Given as goal

abbrev pub invariant-loop-i : goal.invariant-loop-i
invariant-loop-i l =
    Reaches l.initial.out (making_from l.self.text.now l.self.pattern.now 0 l.self.params.now) l.out (making_from l.self.text.now l.self.pattern.now l.i l.self.params.now)

abbrev pub decreases-loop-i : goal.decreases-loop-i
decreases-loop-i l = l.end - l.i
