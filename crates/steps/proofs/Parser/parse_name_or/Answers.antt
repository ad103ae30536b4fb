use Rattle.steps.specs.Read.{ReadAs}
use Rattle.steps.proofs.NameLaws.{symbol_next, symbol_is}
use Rattle.steps.proofs.SizeLaws.{other-bounded}
use Rattle.steps.proofs.ReadLaws.{name_as, name_refused_as, other_as, bounded_went}
use Rattle.steps.proofs.Parser.parse_name_or.Goals as goal

pub returns-in_err-t-clause-reads : goal.returns-in_err-t-clause-reads
returns-in_err-t-clause-reads c = other_as c.args.code _ _ _ c.from_residual.ensures c.in_err-t.ensures

pub returns-in-Ok-clause-reads : goal.returns-in-Ok-clause-reads
returns-in-Ok-clause-reads c = name_as c.args.code c.in_ok-t.t (symbol_next _ _ _ c.in_ok-t.ensures) (symbol_is _ _ _ c.in_ok-t.ensures) c.in-Ok.ensures.reads

pub returns-in-Ok-clause-within : goal.returns-in-Ok-clause-within
unfolding ReadAs
returns-in-Ok-clause-within c = bounded_went 1 2 0 (λ s. other-bounded s c.args.code) (returns-in-Ok-clause-reads c)

pub returns-in-Err-clause-reads : goal.returns-in-Err-clause-reads
returns-in-Err-clause-reads c = name_refused_as c.args.code c.in_ok-t.t c.requires.code_nonzero (symbol_next _ _ _ c.in_ok-t.ensures) (symbol_is _ _ _ c.in_ok-t.ensures) c.in-Err.ensures.reads
