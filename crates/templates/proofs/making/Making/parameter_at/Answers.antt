use Rattle.std.proofs.Common.{◌∙◌, sym}
use borrow.Author.Tests.{eqb-true}
use Rattle.templates.proofs.MakeLaws.{parameter_var, parameter_other, parameter_bind, parameter_kept}
use Rattle.templates.proofs.making.Making.parameter_at.Goals.{then-r-via-then-r, then-r-via-else-r+then-wildcard_at, then-r-2, else-r-2}
use Rattle.templates.proofs.making.Making.parameter_at.Goals as goal

pub returns-then-r : goal.returns-then-r
returns-then-r c =
    elim c.then-r.branch [
      | then-r-via-then-r w ↦ parameter_var _ _ _ _ _ c.rec_at-r.ensures _ c.named_at.ensures w.if-r.true
      | then-r-via-else-r+then-wildcard_at w ↦
          elim w.if-r-2.branch [
            | then-r-2 v ↦ parameter_bind _ _ _ _ _ c.rec_at-r.ensures _ _ c.named_at.ensures v.wildcard_at.ensures (sym v.value-is ∙ w.if-wildcard_at.true) w.if-r.false v.if-r-2.true
            | else-r-2 v ↦ absurd (v.if-r-2.false (eqb-true _ _ (sym v.value-is ∙ w.if-wildcard_at.true)))
          ]
    ]

pub returns : goal.returns
returns c =
    elim c.if-r-2.branch [
      | then-r-2 v ↦ parameter_kept _ _ _ _ _ c.rec_at-r.ensures _ v.wildcard_at.ensures (sym v.value-is ∙ c.if-wildcard_at.false) c.if-r.false v.if-r-2.true
      | else-r-2 v ↦ parameter_other _ _ _ _ _ c.rec_at-r.ensures c.if-r.false v.if-r-2.false
    ]
