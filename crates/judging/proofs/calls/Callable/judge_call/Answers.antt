use Rattle.judging.proofs.CallLaws.{call_second, call_plain, call_number_lem}
use Rattle.judging.proofs.calls.Callable.judge_call.Goals as goal

pub returns-then-r : goal.returns-then-r
returns-then-r c = search call_plain

pub rec_at-name-requires : goal.rec_at-name-requires
rec_at-name-requires c = search call_second

pub returns : goal.returns
returns c = search call_number_lem
