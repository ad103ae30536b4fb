use Rattle.std.proofs.Common.{rules}
use Rattle.templates.proofs.MakeLaws.{wildcard_is}
use Rattle.templates.proofs.making.Making.wildcard_at.Goals as goal

pub returns : goal.returns
returns c = wildcard_is _ _ _ _ _ c.rec_there.ensures.there c.rec_there.ensures.past c.is_some_and.ensures (λ r p. search rules)
