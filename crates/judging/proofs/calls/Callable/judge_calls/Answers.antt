use native.Mathlib.Omega.{arith}
use Rattle.judging.proofs.ScanLaws.{scanning_end, scanning_ended, scanning_flawed, scanning_next, scanning_few}
use Rattle.judging.proofs.calls.Callable.judge_calls.Goals as goal

pub returns-then-todo-eq0 : goal.returns-then-todo-eq0
returns-then-todo-eq0 c = search scanning_end

pub returns-in-Err : goal.returns-in-Err
returns-in-Err c = search (scanning_flawed, c.judge_call.ensures)

pub overflow_add-todo : goal.overflow_add-todo
overflow_add-todo c = omega (arith, scanning_few)

pub loop-k-preserved : goal.loop-k-preserved
loop-k-preserved c = search (scanning_next, c.judge_call.ensures)

pub returns : goal.returns
returns c = search scanning_ended
