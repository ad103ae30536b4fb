use Rattle.std.proofs.Common.{refl}
use Rattle.steps.proofs.NameLaws.{ident_put, ident_refused}
use Rattle.steps.proofs.ReadLaws.{stepped, refused, kept}
use Rattle.steps.proofs.Parser.put_ident.Goals as goal

pub returns-in-Ok-clause-reads : goal.returns-in-Ok-clause-reads
returns-in-Ok-clause-reads c = λ x w h. stepped (kept refl refl) refl (record { met = ident_put _ _ _ _ _ _ _ _ _ c.after-next.ensures c.emit_at-count.ensures.0 (rw (c.over.ensures, c.plain.ensures) at c.emit_at-count.ensures.1) x w (rw c.in-Ok.is at h) })

pub returns-in-Err-clause-reads : goal.returns-in-Err-clause-reads
returns-in-Err-clause-reads c = λ x w h. refused (kept refl refl) (record { met = ident_refused _ _ _ _ _ _ _ c.after-next.ensures x w (rw c.in-Err.is at h) })
