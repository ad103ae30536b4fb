use Rattle.std.proofs.Common.{rules}
use Rattle.openings.proofs.CallLaws.{lent_back, refused_by, first_shaped, second_shaped, opened_by}
use Rattle.openings.proofs.open.Goals as goal

pub returns-in-Err : goal.returns-in-Err
returns-in-Err c =
    refused_by _ _ _ c.in-Err.reason _ _ _ c.in-Err.ensures
    (lent_back _ _ _ _ _ _ _ c.refuse.ensures.left (search (rules, c.refuse.ensures.same.store)) (search (rules, c.refuse.ensures.same.out)))

pub invariant_of-defs : goal.invariant_of-defs
invariant_of-defs c = record { is = first_shaped _ _ _ c.in_default.ensures }

pub invariant_of-pattern : goal.invariant_of-pattern
invariant_of-pattern c = record { is = second_shaped _ _ _ c.in_default.ensures }

pub returns : goal.returns
returns c =
    opened_by _ _ _ c.in_default.ensures _ _ _
    (lent_back _ _ _ _ _ _ _ c.open_judged.ensures.left (search (rules, c.open_judged.ensures.same.store)) (search (rules, c.open_judged.ensures.same.out)))
