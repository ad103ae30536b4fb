use Rattle.reading.proofs.ReadLaws.{told_countable, told_finished}
use Rattle.reading.proofs.finish_on.Goals as goal

pub finish-requires : goal.finish-requires
finish-requires c = told_countable _ (λ d e h. h) _ _ c.map_err.ensures.cases c.requires

pub returns : goal.returns
returns c = told_finished _ (λ d e h. h) _ _ _ _ _ c.map_err.ensures.cases c.finish.ensures
