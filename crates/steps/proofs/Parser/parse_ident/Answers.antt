use Rattle.tokens.specs.Ident.{ident_refusal}
use Rattle.steps.specs.Outcome.{parse_ident}
use Rattle.steps.proofs.NameLaws.{symbol_next, symbol_is}
use Rattle.steps.proofs.SizeLaws.{ident-bounded}
use Rattle.steps.proofs.ReadLaws.{by_name, by_other, bounded_went}
use Rattle.steps.proofs.Parser.parse_ident.Goals as goal

pub returns-in_err-t-clause-reads : goal.returns-in_err-t-clause-reads
unfolding parse_ident
returns-in_err-t-clause-reads c = by_other ident_refusal (λ w. w) _ _ c.from_residual.ensures c.in_err-t.ensures

pub returns-clause-reads : goal.returns-clause-reads
unfolding parse_ident
returns-clause-reads c = by_name ident_refusal (λ w. w) c.in_ok-t.t (symbol_next _ _ _ c.in_ok-t.ensures) (symbol_is _ _ _ c.in_ok-t.ensures) c.put_name.ensures.reads

pub returns-clause-within : goal.returns-clause-within
returns-clause-within c = bounded_went 1 2 0 ident-bounded (returns-clause-reads c)
