use Rattle.std.proofs.Common.{refl, ap}
use Rattle.steps.specs.Outcome.{const_refusal}
use Rattle.steps.proofs.NameLaws.{const_fits, cut_named, named_exit}
use Rattle.steps.proofs.names.cut_dollar.Goals as goal

pub returns-in_err-check_const : goal.returns-in_err-check_const
returns-in_err-check_const c = named_exit _ _ _ _ _ c.from_residual.ensures c.in_err-check_const.ensures (ap const_refusal c.spelling.ensures)

pub overflow_add-result : goal.overflow_add-result
overflow_add-result c = const_fits _ _ 0 _ c.spelling.ensures c.in_ok-check_const.ensures c.requires refl

pub returns : goal.returns
returns c = cut_named _ _ 0 _ c.spelling.ensures c.in_ok-check_const.ensures refl
