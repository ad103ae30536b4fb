use Rattle.std.proofs.Common.{refl}
use Rattle.templates.proofs.AnswerLaws.{answered_countable}
use Rattle.templating.proofs.CallLaws.{positive, refused_call, right_call, finished, ready_to_make}
use Rattle.templating.specs.Calls.{making}
use Rattle.templating.proofs.make.Goals as goal

pub returns-in-Err : goal.returns-in-Err
unfolding making
returns-in-Err c = refused_call _ _ _ _ c.in-Err.ensures _ _ _ _ (positive c.in-Err.reason) c.refuse_on.ensures

pub make_template-answer-requires : goal.make_template-answer-requires
make_template-answer-requires c = ready_to_make _ _ _ c.in_default.ensures

pub finish-requires : goal.finish-requires
finish-requires c = search answered_countable

pub returns : goal.returns
unfolding making
returns c = right_call _ _ _ _ c.in_default.ensures _ _ _ _ refl (finished _ _ _ _ _ _ _ c.make_template-answer.ensures c.finish.ensures c.make_template-answer.auto.out)
