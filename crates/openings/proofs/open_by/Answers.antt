use Rattle.openings.proofs.CallLaws.{answers-ended}
use Rattle.openings.proofs.open_by.Goals as goal

pub returns-clause-left : goal.returns-clause-left
returns-clause-left c = answers-ended _ _ _ _ _ _ _ _ _ _ _ c.open_into-a.ensures.answered c.finish.ensures.finished c.open_into-a.ensures.same.store_size c.open_into-a.ensures.same.out_size
