use Rattle.reading.proofs.ReadLaws.{finish_refused_as, finish_settled_as, countable_as_count}
use Rattle.reading.proofs.finish.Goals as goal

pub settle-requires : goal.settle-requires
settle-requires c = countable_as_count _ (rw c.in-Ok.is at c.requires)

pub returns-in-Ok : goal.returns-in-Ok
returns-in-Ok c = rw c.in-Ok.is (finish_settled_as _ _ _ _ c.settle.ensures)

pub returns-in-Err : goal.returns-in-Err
returns-in-Err c = rw c.in-Err.is (finish_refused_as _ _ _ _ c.refuse.ensures)
