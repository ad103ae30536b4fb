use Rattle.trees.specs.Names.{without_first}
use Rattle.steps.specs.Outcome.{const_refusal, parse_const}
use Rattle.steps.proofs.NameLaws.{symbol_next, symbol_is}
use Rattle.steps.proofs.SizeLaws.{const_bounded}
use Rattle.steps.proofs.ReadLaws.{by_name, by_other, bounded_went}
use Rattle.steps.proofs.Parser.parse_const.Goals as goal

pub returns-in_err-t-clause-reads : goal.returns-in_err-t-clause-reads
unfolding parse_const
returns-in_err-t-clause-reads c = by_other const_refusal without_first _ _ c.from_residual.ensures c.in_err-t.ensures

pub returns-clause-reads : goal.returns-clause-reads
unfolding parse_const
returns-clause-reads c = by_name const_refusal without_first c.in_ok-t.t (symbol_next _ _ _ c.in_ok-t.ensures) (symbol_is _ _ _ c.in_ok-t.ensures) c.put_const.ensures.reads

pub returns-clause-within : goal.returns-clause-within
returns-clause-within c = bounded_went 1 2 0 const_bounded (returns-clause-reads c)
