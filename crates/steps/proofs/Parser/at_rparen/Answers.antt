use Rattle.std.proofs.Common.{ap}
use lib.Dec.{eqb}
use Rattle.tokens.specs.Token.{is_rparen}
use Rattle.steps.proofs.Parser.at_rparen.Goals as goal

pub returns : goal.returns
unfolding is_rparen
returns c = ap (λ x. eqb x 2) c.next_kind.ensures
