use Rattle.std.proofs.Common.{suc, ◌-◌}
use Rattle.tokens.specs.Input.{size}
use Rattle.steps.specs.Read.{read_by}
use Rattle.steps.proofs.ReadLaws.{Turning}
use Rattle.steps.proofs.Parser.parse_row.Given as goal

abbrev pub invariant-loop-self : goal.invariant-loop-self
invariant-loop-self g l = Turning g.I.Item.stop g.I.Item.reader l.initial.self l.self

abbrev pub decreases-loop-self : goal.decreases-loop-self
decreases-loop-self g l = suc (size (read_by l.initial.self)) - l.self.state.next
