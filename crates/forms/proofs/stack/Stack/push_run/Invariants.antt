use Rattle.std.proofs.Common.{◌-◌}
use Rattle.forms.specs.Forms.{run}
use Rattle.forms.specs.Sorts.{sort_of}
use Rattle.forms.specs.Stack.{Pushed}
use Rattle.forms.proofs.stack.Stack.push_run.Given as goal

abbrev pub invariant-loop-p : goal.invariant-loop-p
invariant-loop-p l = Pushed l.initial.self l.self (run (sort_of l.sort) l.p-counter (l.n - l.p-counter))
