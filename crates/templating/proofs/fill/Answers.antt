use Rattle.std.proofs.Common.{refl}
use Rattle.templates.proofs.AnswerLaws.{answered_countable}
use Rattle.templating.proofs.CallLaws.{positive, refused_call, right_call, finished, ready_to_substitute}
use Rattle.templating.specs.Calls.{substituting}
use Rattle.templating.proofs.fill.Goals as goal

pub returns-in-Err : goal.returns-in-Err
unfolding substituting
returns-in-Err c = refused_call _ _ _ _ c.in-Err.ensures _ _ _ _ (positive c.in-Err.reason) c.refuse_on.ensures

pub substitute-answer-requires : goal.substitute-answer-requires
substitute-answer-requires c = ready_to_substitute _ _ _ c.in_default.ensures

pub finish-requires : goal.finish-requires
finish-requires c = search answered_countable

pub returns : goal.returns
unfolding substituting
returns c = right_call _ _ _ _ c.in_default.ensures _ _ _ _ refl (finished _ _ _ _ _ _ _ c.substitute-answer.ensures c.finish.ensures c.substitute-answer.auto.out)
