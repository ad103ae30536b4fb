use Rattle.std.proofs.Common.{rules, arith, ◌∙◌}
use Rattle.forms.proofs.JudgeLaws.{number_is}
use Rattle.forms.proofs.ScanLaws.{scan_first, scan_start, scan_name, scan_var, scan_no, scan_again, scan_end}
use Rattle.forms.proofs.judge.Lent.scan.Goals as goal

pub returns-then-n-stack : goal.returns-then-n-stack
returns-then-n-stack c = search scan_first

pub loop-i-init : goal.loop-i-init
loop-i-init c = (omega arith, omega arith, scan_start _ _ _ _ _ (number_is _ _ _ c.map_or-rest.ensures (λ x p. search rules)))

pub loop-i-preserved-then-is_name : goal.loop-i-preserved-then-is_name
loop-i-preserved-then-is_name c = (omega arith, omega arith, scan_name _ _ _ _ c.loop-i.stack c.pop.new.self _ _ _ (c.unwrap_or-s.ensures ∙ c.pop.ensures.top _) c.pop.ensures.left c.loop-i.invariant.2 c.slots-n.ensures c.loop-i-test.true _ c.is_name.ensures c.if-is_name.true)

pub loop-i-preserved-then-stack-left : goal.loop-i-preserved-then-stack-left
loop-i-preserved-then-stack-left c = (omega arith, omega arith, scan_var _ _ _ _ c.loop-i.stack c.pop.new.self _ _ _ (c.unwrap_or-s.ensures ∙ c.pop.ensures.top _) c.pop.ensures.left c.loop-i.invariant.2 c.slots-n.ensures c.loop-i-test.true _ _ c.is_var.ensures c.if-is_var.true c.push_name.ensures)

pub returns-then-not-take : goal.returns-then-not-take
returns-then-not-take c = scan_no _ _ _ _ c.loop-i.stack c.pop.new.self _ _ _ (c.unwrap_or-s.ensures ∙ c.pop.ensures.top _) c.pop.ensures.left c.loop-i.invariant.2 c.slots-n.ensures c.loop-i-test.true (c.take.ensures.refused c.if-not-take.true)

pub loop-i-preserved : goal.loop-i-preserved
loop-i-preserved c =
    let w = c.take.ensures.taken c.if-not-take.false in
    (w.inside, omega (arith, w.pushed.same_space), scan_again _ _ _ _ c.loop-i.stack c.pop.new.self _ _ _ (c.unwrap_or-s.ensures ∙ c.pop.ensures.top _) c.pop.ensures.left c.loop-i.invariant.2 c.slots-n.ensures c.loop-i-test.true _ w)

pub returns : goal.returns
returns c = scan_end _ _ _ _ _ _ _ _ c.loop-i.invariant.2 c.slots-n.ensures c.loop-i-test.false c.loop-i.invariant.0
