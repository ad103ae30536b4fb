use Rattle.forms.proofs.StackLaws.{room_one, pushed_none, pushed_one}
use Rattle.forms.proofs.stack.Stack.push_one.Goals as goal

pub push-requires : goal.push-requires
push-requires c = search room_one

pub returns-in-Some : goal.returns-in-Some
returns-in-Some c = search pushed_one

pub returns-in_default : goal.returns-in_default
returns-in_default c = search pushed_none
