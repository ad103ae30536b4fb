use Rattle.std.proofs.Common.{suc, ◌+◌, ◌-◌, ◌*◌}
use Rattle.tokens.specs.Token.{is_rparen}
use Rattle.tokens.specs.Input.{peek, size}
use Rattle.steps.specs.Read.{read_by}
use Rattle.steps.proofs.ReadLaws.{Turning}
use Rattle.patterns.specs.Pattern.{parse_pattern}
use Rattle.patterns.proofs.+pattern.Given as goal

abbrev pub decreases-parse_and : goal.decreases-parse_and
decreases-parse_and l = 4 * l.depth + 2

abbrev pub decreases-parse_bind : goal.decreases-parse_bind
decreases-parse_bind l = 4 * l.depth + 2

abbrev pub decreases-parse_compound : goal.decreases-parse_compound
decreases-parse_compound l = 4 * l.depth + 3

abbrev pub decreases-parse_pattern : goal.decreases-parse_pattern
decreases-parse_pattern l = 4 * l.depth

abbrev pub decreases-parse_patterns : goal.decreases-parse_patterns
decreases-parse_patterns l = 4 * l.depth + 1

abbrev pub decreases-parse_term : goal.decreases-parse_term
decreases-parse_term l = 4 * l.depth + 2

abbrev pub invariant-parse_patterns-loop-p : goal.invariant-parse_patterns-loop-p
invariant-parse_patterns-loop-p l = Turning (λ s i. is_rparen (peek s i)) (λ s _. parse_pattern s l.depth) l.initial.p l.p

abbrev pub decreases-parse_patterns-loop-p : goal.decreases-parse_patterns-loop-p
decreases-parse_patterns-loop-p l = suc (size (read_by l.initial.p)) - l.p.state.next
