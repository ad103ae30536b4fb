use Rattle.forms.proofs.StackLaws.{popped-none, popped-top, left-none, left-top}
use Rattle.forms.proofs.stack.Stack.pop.Goals as goal

pub returns-then-self-eq0-clause-top : goal.returns-then-self-eq0-clause-top
returns-then-self-eq0-clause-top c = search popped-none

pub returns-then-self-eq0-clause-left : goal.returns-then-self-eq0-clause-left
returns-then-self-eq0-clause-left c = search left-none

pub returns-clause-top : goal.returns-clause-top
returns-clause-top c = search popped-top

pub returns-clause-left : goal.returns-clause-left
returns-clause-left c = search left-top
