use Rattle.tokens.proofs.LentLaws.{value-int, value_spare, value_outside, value-plain, value-inside}
use Rattle.tokens.proofs.lent.Lent.is_good_value.Goals as goal

pub returns-then-kind-eq-INT : goal.returns-then-kind-eq-INT
returns-then-kind-eq-INT c = search value-int

pub returns-then-c-ne0 : goal.returns-then-c-ne0
returns-then-c-ne0 c = search value_spare

pub returns-then-reach-b : goal.returns-then-reach-b
returns-then-reach-b c = search value_outside

pub returns-then-self : goal.returns-then-self
returns-then-self c = search value-plain

pub returns : goal.returns
returns c = search value-inside
