use Rattle.templating.proofs.CallLaws.{long-text, long-first, long-second, first-cut, second-cut, whole}
use Rattle.templating.proofs.sizes.Goals as goal
use Rattle.templating.proofs.sizes.Goals.{then-text-gt-MOST-via-then-text-gt-MOST, then-text-gt-MOST-via-else-text-gt-MOST+then-first-gt-MOST, then-text-gt-MOST-via-else-text-gt-MOST+else-first-gt-MOST+then-second-gt-MOST, then-first-ne0-via-then-first-ne0, then-first-ne0-via-else-first-ne0+then-second-ne0}

pub returns-then-text-gt-MOST : goal.returns-then-text-gt-MOST
returns-then-text-gt-MOST c =
    elim c.then-text-gt-MOST.branch [
      | then-text-gt-MOST-via-then-text-gt-MOST w ↦ long-text _ _ _ w.if-text-gt-MOST.true
      | then-text-gt-MOST-via-else-text-gt-MOST+then-first-gt-MOST w ↦ long-first _ _ _ w.if-text-gt-MOST.false w.if-first-gt-MOST.true
      | then-text-gt-MOST-via-else-text-gt-MOST+else-first-gt-MOST+then-second-gt-MOST w ↦ long-second _ _ _ w.if-text-gt-MOST.false w.if-first-gt-MOST.false w.if-second-gt-MOST.true
    ]

pub returns-then-first-ne0 : goal.returns-then-first-ne0
returns-then-first-ne0 c =
    elim c.then-first-ne0.branch [
      | then-first-ne0-via-then-first-ne0 w ↦ first-cut _ _ _ c.if-text-gt-MOST.false c.if-first-gt-MOST.false c.if-second-gt-MOST.false w.if-first-ne0.true
      | then-first-ne0-via-else-first-ne0+then-second-ne0 w ↦ second-cut _ _ _ c.if-text-gt-MOST.false c.if-first-gt-MOST.false c.if-second-gt-MOST.false w.if-first-ne0.false w.if-second-ne0.true
    ]

pub returns : goal.returns
returns c = search whole
