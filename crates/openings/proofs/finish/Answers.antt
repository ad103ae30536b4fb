use Rattle.openings.proofs.CallLaws.{finish_refused, countable-kept, place-fits}
use Rattle.openings.proofs.finish.Goals as goal

pub keep-requires : goal.keep-requires
keep-requires c = search countable-kept

pub overflow_cast-flaw : goal.overflow_cast-flaw
overflow_cast-flaw c = search place-fits

pub returns-in-Err : goal.returns-in-Err
returns-in-Err c = search finish_refused
