use Rattle.std.proofs.Common.{suc, ◌-◌}
use Rattle.tokens.specs.Input.{size}
use Rattle.steps.specs.Read.{read_by}
use Rattle.parser.proofs.ModifierLaws.{Passing}
use Rattle.parser.proofs.types.pass_modifiers.Given as goal

abbrev pub invariant-loop-more : goal.invariant-loop-more
invariant-loop-more l = Passing l.initial.p l.p l.met

abbrev pub decreases-loop-more : goal.decreases-loop-more
decreases-loop-more l = suc (size (read_by l.initial.p)) - l.p.state.next
