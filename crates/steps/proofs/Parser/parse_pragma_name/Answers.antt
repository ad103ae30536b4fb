use Rattle.std.proofs.Common.{ap, ◌∙◌}
use Rattle.steps.specs.Outcome.{pragma_refusal}
use Rattle.steps.proofs.NameLaws.{ident_refused, named_err, symbol_next, symbol_is}
use Rattle.steps.proofs.ReadLaws.{by_name, by_other, refused, unmoved}
use Rattle.steps.proofs.Parser.parse_pragma_name.Goals as goal

pub returns-in_err-t-clause-reads : goal.returns-in_err-t-clause-reads
returns-in_err-t-clause-reads c = by_other pragma_refusal (λ w. w) _ _ c.from_residual.ensures c.in_err-t.ensures

pub returns-clause-reads : goal.returns-clause-reads
returns-clause-reads c = by_name pragma_refusal (λ w. w) c.in_ok-t.t (symbol_next _ _ _ c.in_ok-t.ensures) (symbol_is _ _ _ c.in_ok-t.ensures) (refused unmoved (record { met = ident_refused _ _ _ _ _ _ _ c.after.ensures _ _ (named_err _ _ _ (c.pragma_ground.ensures ∙ ap pragma_refusal c.spelling.ensures)) }))
