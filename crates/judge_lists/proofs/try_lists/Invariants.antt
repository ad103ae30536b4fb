use Rattle.std.proofs.Common.{◌≡◌, ◌-◌, ◌*◌, ◌≤◌, length}
use Rattle.judge_lists.proofs.try_lists.Given as goal

abbrev pub invariant-loop-list : goal.invariant-loop-list
invariant-loop-list l = (l.at ≤ length l.input) × (l.accepted ≤ 65536 * l.at) × (length l.input ≡ length l.initial.input)

abbrev pub decreases-loop-list : goal.decreases-loop-list
decreases-loop-list l = length l.initial.input - l.at
