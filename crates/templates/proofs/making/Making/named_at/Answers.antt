use Rattle.templates.proofs.MakeLaws.{named_is, named_none}
use Rattle.templates.proofs.making.Making.named_at.Goals as goal

pub returns-in_err-name : goal.returns-in_err-name
returns-in_err-name c = rw c.from_residual.ensures (named_none _ _ _ _ c.in_err-name.ensures.past)

pub returns : goal.returns
returns c = named_is _ _ _ _ _ _ _ c.position.ensures c.spelling.ensures c.in_ok-name.ensures.there
