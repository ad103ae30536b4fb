use Rattle.opening.specs.Lent.{SameLent}
use Rattle.opening.proofs.FillLaws.{Filling}
use Rattle.opening.proofs.store.fill_from.Given as goal

abbrev pub invariant-loop-x : goal.invariant-loop-x
invariant-loop-x l =
    Filling l.space l.known.text.now l.known.rows.now l.source.records.now l.source.ends.now l.initial.outputs.store.now l.initial.outputs.out.now l.initial.starts l.starts l.outputs.store.now l.outputs.out.now l.x l.used
    × SameLent l.initial.outputs l.outputs
