use Rattle.std.proofs.Common.{refl}
use Rattle.steps.specs.Read.{read_by}
use Rattle.steps.proofs.ReadLaws.{stepped, refused, unmoved, bounded_went}
use Rattle.parser.proofs.RuleLaws.{priority_none, priority_refused, priority_read, priority-bounded}
use Rattle.parser.proofs.rules.rule_priority.Goals as goal

pub returns-then-not-is_int-clause-reads : goal.returns-then-not-is_int-clause-reads
returns-then-not-is_int-clause-reads c = stepped unmoved refl (priority_none (read_by c.args.p.now) _ _ _ c.next_token-t.ensures c.is_int.ensures c.if-not-is_int.true)

pub returns-then-not-is_i64-clause-reads : goal.returns-then-not-is_i64-clause-reads
returns-then-not-is_i64-clause-reads c = refused unmoved (priority_refused (read_by c.args.p.now) _ _ _ c.next_token-t.ensures c.is_int.ensures _ c.if-not-is_int.false c.is_i64.ensures c.if-not-is_i64.true c.after.ensures)

pub returns-clause-reads : goal.returns-clause-reads
returns-clause-reads c = let m = (rw c.plain.ensures at c.put_leaf.ensures) in stepped m.same refl (priority_read (read_by c.args.p.now) _ _ _ c.next_token-t.ensures c.is_int.ensures _ c.if-not-is_int.false c.is_i64.ensures c.if-not-is_i64.false m.leafed)

pub returns-clause-within : goal.returns-clause-within
returns-clause-within c = bounded_went 0 0 0 (λ s. priority-bounded s c.args.place) (returns-clause-reads c)
