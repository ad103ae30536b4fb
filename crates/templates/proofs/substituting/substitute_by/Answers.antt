use Rattle.std.proofs.Common.{refl, rules, ◌≡◌}
use Rattle.templates.proofs.FillLaws.{starts_found, args_below, cut_args, cut_few, few_starts, substitute_refused, substitute_full, substitute_all}
use Rattle.std.proofs.lemmas.Result.{err_from_is_err_and}
use Rattle.templates.proofs.AnswerLaws.{answered_fits}
use Rattle.templates.proofs.WriteLaws.{same_reference}
use Rattle.templates.proofs.substituting.substitute_by.Goals as goal

pub returns-in-Some : goal.returns-in-Some
returns-in-Some c = substitute_refused _ _ c.requires.ready _ _ c.find_starts-m.ensures _ _ _ _ _ c.in-Some.ensures.first c.in-Some.ensures.inside

pub invariant_of-found-clause-found : goal.invariant_of-found-clause-found
invariant_of-found-clause-found c = starts_found _ _ _ c.find_starts-m.ensures

pub fill-requires : goal.fill-requires
fill-requires c = record { args_below = cut_args _ _ _ c.find_starts-m.ensures.room (args_below _ _ c.requires.ready _ _ c.find_starts-m.ensures c.in_default.ensures.first) }

pub invariant_of-found-clause-few : goal.invariant_of-found-clause-few
invariant_of-found-clause-few c = cut_few _ _ (few_starts _ _ c.requires.ready _ _ c.find_starts-m.ensures)

pub returns-in_err-fill : goal.returns-in_err-fill
returns-in_err-fill c =
    let p = err_from_is_err_and c.from_residual.result c.from_residual.ensures.1 in
    rw (p.1, p.2) (substitute_full _ _ c.requires.ready _ _ c.find_starts-m.ensures c.in_default.ensures.first _ _ _ c.new-output.ensures.empty _ _ c.in_err-fill.ensures)

pub overflow_cast-result-2 : goal.overflow_cast-result-2
overflow_cast-result-2 c = answered_fits _ _ _ _ _ refl c.new-output.ensures.empty c.in_ok-fill.ensures

pub returns : goal.returns
returns c =
    let e : c.fill.new.out.bytes.ghost_name ≡ c.new-output.result.bytes.ghost_name = same_reference _ _ _ c.in_ok-fill.ensures in
    substitute_all _ _ c.requires.ready _ _ c.find_starts-m.ensures c.in_default.ensures.first _ _ _ c.new-output.ensures.empty _ _ c.in_ok-fill.ensures refl (search rules)
