use Rattle.lexer.proofs.NumberLaws.{total_start, total_on, total_refused, total_end}
use Rattle.lexer.proofs.number.from_str_radix.Goals as goal

pub loop-c-init : goal.loop-c-init
loop-c-init c = search total_start

pub returns-in_err-sum : goal.returns-in_err-sum
returns-in_err-sum c = total_refused _ _ _ _ _ c.loop-c.invariant c.loop-c-test.true c.byte_on.ensures _ _ c.in_err-sum.was c.from_residual.ensures.0

pub loop-c-preserved : goal.loop-c-preserved
loop-c-preserved c = total_on _ _ _ _ _ c.loop-c.invariant c.loop-c-test.true c.byte_on.ensures _ c.in_ok-sum.was

pub returns : goal.returns
returns c = search total_end
