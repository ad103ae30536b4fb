use Rattle.opening.proofs.MadeLaws.{call_none, call_some, call_name}
use Rattle.opening.proofs.made.call_at.Goals as goal

pub returns-then-r : goal.returns-then-r
returns-then-r c = search call_none

pub rec_at-name-requires : goal.rec_at-name-requires
rec_at-name-requires c = search call_name

pub returns : goal.returns
returns c = search call_some
