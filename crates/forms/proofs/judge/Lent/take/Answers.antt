use Rattle.forms.proofs.ScanLaws.{take_unknown, take_no, take_short, take_all, scan_enough}
use Rattle.forms.proofs.judge.Lent.take.Goals as goal

pub returns-in_default-clause-refused : goal.returns-in_default-clause-refused
returns-in_default-clause-refused c = λ e. search take_unknown

pub returns-then-not-may_stand-clause-refused : goal.returns-then-not-may_stand-clause-refused
returns-then-not-may_stand-clause-refused c = λ e. take_no _ _ _ _ _ _ _ _ c.rec_at-r.ensures c.in-Some.ensures c.may_stand.ensures c.if-not-may_stand.true

pub returns-then-left-stack-clause-refused : goal.returns-then-left-stack-clause-refused
returns-then-left-stack-clause-refused c = λ e. take_short _ _ _ _ _ _ _ _ c.rec_at-r.ensures c.in-Some.ensures c.may_stand.ensures c.if-not-may_stand.false c.if-left-stack.true

pub push_children-requires-clause-enough : goal.push_children-requires-clause-enough
push_children-requires-clause-enough c = search scan_enough

pub returns-clause-taken : goal.returns-clause-taken
returns-clause-taken c = λ e. take_all _ _ _ _ _ _ _ _ c.rec_at-r.ensures c.in-Some.ensures c.may_stand.ensures _ c.if-not-may_stand.false c.if-left-stack.false c.push_children.ensures
