use Rattle.opening.proofs.MadeLaws.{var-second, bind-second, bind_third, sought_var, sought_other, sought_bind, sought_bound}
use Rattle.opening.proofs.made.stands_at.Goals as goal

pub rec_at-name-requires : goal.rec_at-name-requires
rec_at-name-requires c = search var-second

pub returns-then-r : goal.returns-then-r
returns-then-r c = search sought_var

pub returns-then-r-2 : goal.returns-then-r-2
returns-then-r-2 c = search sought_other

pub rec_at-name-requires-2 : goal.rec_at-name-requires-2
rec_at-name-requires-2 c = search bind-second

pub rec_at-below-requires : goal.rec_at-below-requires
rec_at-below-requires c = search bind_third

pub returns-then-below : goal.returns-then-below
returns-then-below c = search sought_bound

pub returns : goal.returns
returns c = search sought_bind
