use Prim.Native.Nat.{◌-◌}
use lib.ListN.{length}
use Rattle.lexer.proofs.GapLaws.{Skip}
use Rattle.lexer.proofs.gaps.skip.Given as goal

abbrev pub invariant-loop-i : goal.invariant-loop-i
invariant-loop-i l = Skip l.text l.from l.i

abbrev pub decreases-loop-i : goal.decreases-loop-i
decreases-loop-i l = length l.text - l.i
