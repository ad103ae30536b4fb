use Rattle.std.proofs.Common.{rules}
use Rattle.opening.proofs.FillLaws.{filling_start, filling_params, filling_pattern, filling_readied, filling_full, filling_next}
use Rattle.opening.proofs.store.fill_from.Goals as goal

pub loop-x-init : goal.loop-x-init
loop-x-init c = search filling_start

pub overflow_add-opening : goal.overflow_add-opening
overflow_add-opening c = search filling_params

pub overflow_add-row : goal.overflow_add-row
overflow_add-row c = search filling_params

pub overflow_add-row-in-loop-x : goal.overflow_add-row-in-loop-x
overflow_add-row-in-loop-x c = search filling_pattern

pub open_one-requires-clause-readied : goal.open_one-requires-clause-readied
open_one-requires-clause-readied c = search filling_readied

pub returns-in_err-used-clause-stored : goal.returns-in_err-used-clause-stored
returns-in_err-used-clause-stored c = rw c.from_residual.ensures (search (filling_full, c.in_err-used.was))

pub loop-x-preserved : goal.loop-x-preserved
loop-x-preserved c = (search (filling_next, c.in_ok-used.was), search rules)
