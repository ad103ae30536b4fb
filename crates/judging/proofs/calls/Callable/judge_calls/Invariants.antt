use Rattle.judging.specs.Judging.{its_flaw}
use Rattle.judging.proofs.ScanLaws.{Scanning}
use Rattle.judging.proofs.calls.Callable.judge_calls.Given as goal

abbrev pub invariant-loop-k : goal.invariant-loop-k
invariant-loop-k l = Scanning (its_flaw l.self.known.text.now l.self.known.rows.now l.self.earlier) l.src l.at l.trees l.todo l.k
