use Rattle.templates.proofs.AnswerLaws.{number_accepted, number_refused, number_fits}
use Rattle.templates.proofs.number.Goals as goal

pub accepted-requires : goal.accepted-requires
accepted-requires c = search number_fits

pub returns-in-Ok : goal.returns-in-Ok
returns-in-Ok c = search number_accepted

pub returns-in-Err : goal.returns-in-Err
returns-in-Err c = search number_refused
