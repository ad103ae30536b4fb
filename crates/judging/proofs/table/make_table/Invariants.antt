use Prim.Native.Nat.{◌-◌}
use Rattle.judging.proofs.TableLaws.{Making}
use Rattle.judging.proofs.table.make_table.Given as goal

abbrev pub invariant-loop-i : goal.invariant-loop-i
invariant-loop-i l = Making l.defs.records.now l.initial.table l.table l.n l.i

abbrev pub decreases-loop-i : goal.decreases-loop-i
decreases-loop-i l = l.end - l.i
