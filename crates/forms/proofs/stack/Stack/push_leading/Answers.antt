use Rattle.std.proofs.Common.{arith}
use Rattle.forms.proofs.StackLaws.{length-leading, pushed_leading}
use Rattle.forms.proofs.Exact.{length-one}
use Rattle.forms.proofs.stack.Stack.push_leading.Goals as goal

pub push_one-requires : goal.push_one-requires
push_one-requires c = omega (arith, length-leading, length-one)

pub push_one-requires-2 : goal.push_one-requires-2
push_one-requires-2 c = omega (arith, length-leading, length-one)

pub push_one-requires-3 : goal.push_one-requires-3
push_one-requires-3 c = omega (arith, length-leading, length-one)

pub returns : goal.returns
returns c = search pushed_leading
