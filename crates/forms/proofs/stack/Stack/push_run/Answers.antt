use Rattle.std.proofs.Common.{arith, rules}
use Rattle.forms.proofs.Exact.{length_run}
use Rattle.forms.proofs.JudgeLaws.{child_is}
use Rattle.forms.proofs.StackLaws.{run_start, run_more}
use Rattle.forms.proofs.stack.Stack.push_run.Goals as goal

pub loop-p-init : goal.loop-p-init
loop-p-init c = search run_start

pub push-requires : goal.push-requires
push-requires c = omega (arith, length_run)

pub loop-p-preserved : goal.loop-p-preserved
loop-p-preserved c = run_more _ _ _ _ _ _ _ c.loop-p.invariant (omega arith) (omega arith) (child_is _ _ _ _ c.map_or.ensures (λ x p. search rules)) c.push.ensures
