use Rattle.std.proofs.Common.{refl, rules}
use Rattle.std.proofs.lemmas.Result.{err_from_is_err_and}
use Rattle.templating.proofs.CallLaws.{positive, fault-size, fault-first, fault-second, faultless, short-first, short-second}
use Rattle.records.specs.Grounds.{number}
use Rattle.templating.proofs.check.Goals as goal
use Rattle.templating.proofs.check.Goals.{then-not-one_pattern-via-then-not-one_pattern, then-not-one_pattern-via-else-not-one_pattern+then-not-judge}

pub returns-in_err-sizes : goal.returns-in_err-sizes
returns-in_err-sizes g c =
    let p = err_from_is_err_and c.from_residual.result c.from_residual.ensures.1 in
    rw (p.1, p.2) (fault-size (number c.in_err-sizes.field-0.0) _ c.in_err-sizes.ensures _ _ (positive _))

pub one_pattern-requires : goal.one_pattern-requires
one_pattern-requires g c = short-first _ _ _ _ c.in_ok-sizes.ensures refl

pub judge-requires : goal.judge-requires
judge-requires g c = let k = short-second _ _ _ _ c.in_ok-sizes.ensures refl in search (rules, c.requires.1.0 k)

pub returns-then-not-one_pattern : goal.returns-then-not-one_pattern
returns-then-not-one_pattern g c =
    elim c.then-not-one_pattern.branch [
      | then-not-one_pattern-via-then-not-one_pattern w ↦ fault-first _ _ c.in_ok-sizes.ensures _ _ _ refl c.one_pattern.ensures w.if-not-one_pattern.true
      | then-not-one_pattern-via-else-not-one_pattern+then-not-judge w ↦ fault-second _ _ c.in_ok-sizes.ensures _ _ _ _ refl c.one_pattern.ensures w.if-not-one_pattern.false (c.requires.1.1 _ w.judge.ensures) w.if-not-judge.true
    ]

pub returns : goal.returns
returns g c = faultless _ _ c.in_ok-sizes.ensures _ _ _ _ refl c.one_pattern.ensures c.if-not-one_pattern.false (c.requires.1.1 _ c.judge.ensures) c.if-not-judge.false
