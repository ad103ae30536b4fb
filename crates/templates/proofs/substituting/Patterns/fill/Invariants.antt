use Rattle.templates.specs.Writing.{Reaches}
use Rattle.templates.specs.Scans.{fill_from}
use Rattle.templates.proofs.substituting.Patterns.fill.Given as goal

abbrev pub invariant-loop-i : goal.invariant-loop-i
invariant-loop-i l =
    Reaches l.initial.out (fill_from l.template 0 l.self.records.now) l.out (fill_from l.template l.i l.self.records.now)
