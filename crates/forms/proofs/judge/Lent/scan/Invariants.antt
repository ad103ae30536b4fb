use Rattle.std.proofs.Common.{◌≡◌, ◌≤◌, ◌-◌, length}
use Rattle.records.specs.Slots.{recs}
use Rattle.forms.specs.Forms.{fits}
use Rattle.forms.specs.Lists.{left}
use Rattle.forms.specs.Sorts.{sort_of}
use Rattle.forms.specs.Stack.{held}
use Rattle.forms.proofs.judge.Lent.scan.Given as goal

abbrev pub invariant-loop-i : goal.invariant-loop-i
invariant-loop-i l =
    (l.stack.top ≤ l.n - l.i)
    × (l.n ≤ length l.stack.sorts.now)
    × (fits l.self.text l.rest (held l.stack) (left l.self.records.now l.i) ≡ fits l.self.text (sort_of l.fn.base) (held l.initial.stack) (recs l.self.records.now))
