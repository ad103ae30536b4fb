use Rattle.std.proofs.Common.{rules}
use Rattle.forms.proofs.SkipLaws.{first_where}
use Rattle.templates.specs.Answers.{lacks_pattern}
use Rattle.templates.proofs.scans.first_lacking.Goals as goal

pub returns-clause-first : goal.returns-clause-first
returns-clause-first c = first_where (lacks_pattern c.args.n) c.args.list.now _ _ c.first_where.ensures (λ r b p. search rules)
