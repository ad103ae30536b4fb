use Rattle.std.proofs.Common.{refl, rules, ◌≡◌, ◌∙◌}
use Rattle.templates.proofs.MakeLaws.{make_refused, make_full, make_all}
use Rattle.templates.proofs.ScanLaws.{first_arg}
use Rattle.std.proofs.lemmas.Result.{err_from_is_err_and}
use Rattle.templates.proofs.AnswerLaws.{answered_fits}
use Rattle.templates.proofs.WriteLaws.{same_reference}
use Rattle.templates.proofs.making.make_template.Goals as goal

pub returns-in-Some : goal.returns-in-Some
returns-in-Some c = make_refused _ _ _ _ _ _ _ _ (c.in-Some.ensures.first ∙ first_arg _) c.in-Some.ensures.inside

pub returns-in_err-append : goal.returns-in_err-append
returns-in_err-append c =
    let p = err_from_is_err_and c.from_residual.result c.from_residual.ensures.1 in
    rw (p.1, p.2) (make_full _ _ _ _ (c.in_default.ensures.first ∙ first_arg _) c.requires _ _ c.new-output.ensures.empty _ _ c.in_err-append.ensures)

pub overflow_cast-result-2 : goal.overflow_cast-result-2
overflow_cast-result-2 c = answered_fits _ _ _ _ _ refl c.new-output.ensures.empty c.in_ok-append.ensures

pub returns : goal.returns
returns c =
    let e : c.append.new.out.bytes.ghost_name ≡ c.new-output.result.bytes.ghost_name = same_reference _ _ _ c.in_ok-append.ensures in
    make_all _ _ _ _ (c.in_default.ensures.first ∙ first_arg _) c.requires _ _ c.new-output.ensures.empty _ _ c.in_ok-append.ensures refl (search rules)
