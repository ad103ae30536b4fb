use Rattle.templates.proofs.WriteLaws.{Copying}
use Rattle.templates.proofs.output.Output.append_slice.Given as goal

abbrev pub invariant-loop-i : goal.invariant-loop-i
invariant-loop-i l = Copying l.initial.self l.list l.from l.upto l.self l.i
