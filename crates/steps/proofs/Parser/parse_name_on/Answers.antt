use Rattle.trees.specs.Names.{spelled}
use Rattle.records.specs.Grounds.{number}
use Rattle.steps.specs.Outcome.{refused_as, ident_at}
use Rattle.steps.proofs.NameLaws.{named_nonempty, symbol_next, symbol_is}
use Rattle.steps.proofs.SizeLaws.{other-bounded}
use Rattle.steps.proofs.ReadLaws.{here, by_name, by_other, bounded_went}
use Rattle.steps.proofs.Parser.parse_name_on.Goals as goal

pub returns-in_err-t-clause-reads : goal.returns-in_err-t-clause-reads
returns-in_err-t-clause-reads c = by_other (refused_as (number c.args.why)) (λ w. w) _ _ c.from_residual.ensures c.in_err-t.ensures

pub put_ident-requires-clause-nonempty : goal.put_ident-requires-clause-nonempty
put_ident-requires-clause-nonempty c = named_nonempty _ _ _ c.name_or-name.ensures

pub returns-clause-reads : goal.returns-clause-reads
returns-clause-reads c = by_name (refused_as (number c.args.why)) (λ w. w) c.in_ok-t.t (symbol_next _ _ _ c.in_ok-t.ensures) (symbol_is _ _ _ c.in_ok-t.ensures) (here (λ s. ident_at c.in_ok-t.t.pos c.in_ok-t.t.word1 (refused_as (number c.args.why) (spelled s.text c.in_ok-t.t.word1))) (c.put_ident.ensures.reads _ _ c.name_or-name.ensures))

pub returns-clause-within : goal.returns-clause-within
returns-clause-within c = bounded_went 1 2 0 (λ s. other-bounded s _) (returns-clause-reads c)
