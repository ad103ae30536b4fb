use Rattle.std.proofs.Common.{◌≤◌}
use Rattle.names.proofs.order.put_in_order.Given as goal

abbrev pub invariant-loop-j : goal.invariant-loop-j
invariant-loop-j l = l.m ≤ l.j
