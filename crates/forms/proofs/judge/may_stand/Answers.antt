use Rattle.std.proofs.Common.{◌∙◌, sym, inl, inr}
use Rattle.forms.proofs.JudgeLaws.{stands_other, stands_flags, stands_position, stands_words, stands_all}
use Rattle.forms.proofs.judge.may_stand.Goals.{then-r-w, else-r-w, then-position_ok, else-position_ok}
use Rattle.forms.proofs.judge.may_stand.Goals as goal

pub returns-then-words_ok : goal.returns-then-words_ok
returns-then-words_ok c =
    elim c.if-position_ok.branch [
      | then-position_ok u ↦
          elim c.if-r-w.branch [
            | then-r-w v ↦
                stands_all _ _ _ _ _ c.is_placed.ensures _ _ _ v.position_ok.ensures u.words_ok.ensures c.singles.ensures v.if-r-w.true.0 v.if-r-w.true.1 (sym v.value-is ∙ u.if-position_ok.true) (sym u.value-is ∙ c.if-words_ok.true)
            | else-r-w v ↦ absurd (cc)
          ]
      | else-position_ok u ↦ absurd (cc)
    ]

pub returns-else-words_ok : goal.returns-else-words_ok
returns-else-words_ok c =
    c.if-words_ok.false ∙ elim c.if-position_ok.branch [
      | then-position_ok u ↦ stands_words _ _ _ _ _ u.words_ok.ensures (sym u.value-is ∙ c.if-words_ok.false)
      | else-position_ok u ↦
          elim c.if-r-w.branch [
            | then-r-w v ↦ stands_position _ _ _ _ _ v.position_ok.ensures (sym v.value-is ∙ u.if-position_ok.false)
            | else-r-w v ↦ elim v.if-r-w.either [ inl e ↦ stands_flags _ _ _ _ e.1 | inr e ↦ stands_other _ _ _ _ _ c.is_placed.ensures e ]
          ]
    ]
