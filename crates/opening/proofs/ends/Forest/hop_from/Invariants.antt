use mathlib.Core.Path.{◌≡◌}
use Rattle.opening.specs.Ends.{behind}
use Rattle.opening.proofs.ends.Forest.hop_from.Given as goal

abbrev pub invariant-loop : goal.invariant-loop
invariant-loop l = l.a ≡ behind l.self.records.now l.at l.counter
