use Rattle.std.proofs.Common.{refl, arith}
use Rattle.forms.proofs.DepthTurns.{small_start, small_now, small_again, deep_start, deep_here, deep_again, deep_end}
use Rattle.forms.proofs.depth.first_deep.Goals as goal

pub loop-i-init : goal.loop-i-init
loop-i-init c = (small_start _, deep_start _ _)

pub returns-then-is_too_deep-clause-first : goal.returns-then-is_too_deep-clause-first
returns-then-is_too_deep-clause-first c = search deep_here

pub read-requires-clause-small : goal.read-requires-clause-small
read-requires-clause-small c = search small_now

pub loop-i-preserved : goal.loop-i-preserved
loop-i-preserved c = (search small_again, search deep_again)

pub returns-clause-first : goal.returns-clause-first
returns-clause-first c = deep_end _ _ _ _ _ _ c.loop-i.invariant.1 refl (omega arith) (omega arith)
