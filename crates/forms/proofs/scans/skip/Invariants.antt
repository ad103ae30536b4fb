use Rattle.std.proofs.Common.{◌≡◌, ◌≤◌, ◌+◌, ◌*◌}
use Rattle.forms.specs.Lists.{left, skip}
use Rattle.forms.proofs.scans.skip.Given as goal

abbrev pub invariant-loop-i : goal.invariant-loop-i
invariant-loop-i l = (l.trees ≤ 65536 + 65536 * l.i) × (l.i + skip l.trees (left l.list l.i) ≡ l.at + skip l.n (left l.list l.at))
