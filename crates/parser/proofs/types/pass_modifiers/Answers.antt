use Rattle.std.proofs.Common.{arith, ap}
use Rattle.steps.specs.declared.State.{State}
use Rattle.parser.proofs.ModifierLaws.{passing_start, passing_on, passing_stop, passing_there, turned_there}
use Rattle.parser.proofs.types.pass_modifiers.Goals as goal

pub loop-more-init : goal.loop-more-init
loop-more-init c = passing_start

pub pass-requires : goal.pass-requires
pass-requires c = turned_there c.loop-more.p _ _ c.in-Some.ensures

pub loop-more-smaller : goal.loop-more-smaller
loop-more-smaller c = let h = passing_there _ c.loop-more.invariant c.in-Some.ensures in let n = ap (λ (x : State). x.next) c.pass.ensures.next in omega (arith, h, n)

pub loop-more-preserved : goal.loop-more-preserved
loop-more-preserved c = passing_on c.loop-more.invariant c.in-Some.ensures c.pass.ensures.next c.pass.ensures.unwritten c.pass.ensures.same

pub returns : goal.returns
returns c = passing_stop c.loop-more.invariant c.in_default.ensures c.flags.ensures
