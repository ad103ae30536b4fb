use Rattle.std.proofs.Common.{rules, ◌∙◌, eqb}
use Rattle.forms.proofs.SkipLaws.{first_where, first_kind}
use Rattle.forms.proofs.scans.first_macro_arg.Goals as goal

pub returns-clause-first : goal.returns-clause-first
returns-clause-first c =
    first_where (λ r. eqb r.kind 38) c.args.list.now _ _ c.first_where.ensures (λ r b p. search rules) ∙ first_kind 38 _
