use Rattle.std.proofs.Common.{◌≤◌}
use Rattle.judge_lists.proofs.try_list.Given as goal

abbrev pub invariant-loop-i : goal.invariant-loop-i
invariant-loop-i l = l.accepted ≤ l.i
