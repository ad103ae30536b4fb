use Rattle.std.proofs.Common.{◌≡◌, ◌+◌, ◌*◌}
use Rattle.records.specs.Slots.{recs}
use Rattle.forms.specs.Lists.{left, first_is}
use Rattle.forms.specs.Depth.{flat_depths, first_deep_in, Small}
use Rattle.forms.specs.Stack.{pending}
use Rattle.forms.proofs.depth.first_deep.Given as goal

abbrev pub invariant-loop-i : goal.invariant-loop-i
invariant-loop-i l = Small (65536 * l.i) (pending l.levels.counts l.levels.depth) × (l.i + first_is 65 (flat_depths (pending l.levels.counts l.levels.depth) (left l.list l.i)) ≡ first_deep_in (recs l.list))
