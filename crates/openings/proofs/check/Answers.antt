use Rattle.std.proofs.Common.{refl}
use Rattle.std.proofs.lemmas.Result.{err_from_is_err_and}
use Rattle.records.specs.Grounds.{number}
use Rattle.templating.specs.Calls.{fault}
use Rattle.templating.proofs.CallLaws.{positive, fault-size, fault-first, fault-second, faultless, short-first, short-second}
use Rattle.openings.specs.Calls.{check}
use Rattle.openings.proofs.check.Goals as goal
use Rattle.openings.proofs.check.Goals.{then-not-definitions-via-then-not-definitions, then-not-definitions-via-else-not-definitions+then-not-one_pattern}

pub returns-in_err-sizes : goal.returns-in_err-sizes
unfolding check fault
returns-in_err-sizes c =
    let p = err_from_is_err_and c.from_residual.result c.from_residual.ensures.1 in
    rw (p.1, p.2) (fault-size (number c.in_err-sizes.field-0.0) _ c.in_err-sizes.ensures _ _ (positive _))

pub definitions-requires : goal.definitions-requires
definitions-requires c = short-first _ _ _ _ c.in_ok-sizes.ensures refl

pub one_pattern-requires : goal.one_pattern-requires
one_pattern-requires c = short-second _ _ _ _ c.in_ok-sizes.ensures refl

pub returns-then-not-definitions : goal.returns-then-not-definitions
unfolding check fault
returns-then-not-definitions c =
    elim c.then-not-definitions.branch [
      | then-not-definitions-via-then-not-definitions w ↦ fault-first _ _ c.in_ok-sizes.ensures _ _ _ refl c.definitions.ensures w.if-not-definitions.true
      | then-not-definitions-via-else-not-definitions+then-not-one_pattern w ↦ fault-second _ _ c.in_ok-sizes.ensures _ _ _ _ refl c.definitions.ensures w.if-not-definitions.false w.one_pattern.ensures w.if-not-one_pattern.true
    ]

pub returns : goal.returns
unfolding check fault
returns c = faultless _ _ c.in_ok-sizes.ensures _ _ _ _ refl c.definitions.ensures c.if-not-definitions.false c.one_pattern.ensures c.if-not-one_pattern.false
