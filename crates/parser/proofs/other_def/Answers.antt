use Rattle.steps.proofs.ReadLaws.{bounded_on}
use Rattle.steps.proofs.ReadLaws.{◌▷◌, stop, exit}
use Rattle.parser.proofs.DefLaws.{other_read, other-bounded}
use Rattle.parser.proofs.other_def.Goals as goal

pub returns-in_err-expect_lparen-clause-reads : goal.returns-in_err-expect_lparen-clause-reads
returns-in_err-expect_lparen-clause-reads c = exit c.from_residual.ensures (other_read _ _ c.requires.second c.unread_ground-why.ensures (stop _ c.in_err-expect_lparen.ensures.reads))

pub returns-clause-reads : goal.returns-clause-reads
returns-clause-reads c = other_read _ _ c.requires.second c.unread_ground-why.ensures (c.in_ok-expect_lparen.ensures.reads ▷ c.refuse_after.ensures)

pub returns-clause-within : goal.returns-clause-within
returns-clause-within c = bounded_on other-bounded (returns-clause-reads c)
