use Rattle.std.proofs.Common.{◌-◌, ◌*◌, ◌≤◌, length}
use Rattle.judge_lists.proofs.count_records.Given as goal

abbrev pub invariant-loop-list : goal.invariant-loop-list
invariant-loop-list l = (l.at ≤ length l.input) × (l.total ≤ 65536 * l.at)

abbrev pub decreases-loop-list : goal.decreases-loop-list
decreases-loop-list l = length l.input - l.at
