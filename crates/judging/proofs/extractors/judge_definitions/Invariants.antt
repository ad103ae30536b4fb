use Prim.Native.Nat.{◌-◌}
use Rattle.judging.proofs.ListLaws.{Listing}
use Rattle.judging.proofs.extractors.judge_definitions.Given as goal

abbrev pub invariant-loop-i : goal.invariant-loop-i
invariant-loop-i l = Listing l.known.text.now l.defs.records.now l.known.rows.now l.earlier l.i

abbrev pub decreases-loop-i : goal.decreases-loop-i
decreases-loop-i l = l.end - l.i
