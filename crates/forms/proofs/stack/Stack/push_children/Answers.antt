use Rattle.std.proofs.Common.{arith}
use Rattle.forms.proofs.StackLaws.{length-leading, singles_count, pushed_childless, pushed_children}
use Rattle.forms.proofs.Exact.{length-one, length_run}
use Rattle.forms.specs.Table.{columns_of}
use Rattle.forms.proofs.stack.Stack.push_children.Goals as goal

pub returns-then-c-eq0 : goal.returns-then-c-eq0
returns-then-c-eq0 c = search pushed_childless

pub push_one-requires : goal.push_one-requires
push_one-requires c = omega (arith, singles_count (columns_of c.args.w), length-one)

pub push_run-requires-clause-room : goal.push_run-requires-clause-room
push_run-requires-clause-room c = omega (arith, singles_count (columns_of c.args.w), length-one)

pub push_leading-requires : goal.push_leading-requires
push_leading-requires c = omega (arith, singles_count (columns_of c.args.w), length-leading, length-one, length_run)

pub returns : goal.returns
returns c = search pushed_children
