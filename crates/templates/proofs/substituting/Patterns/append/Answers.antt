use Rattle.templates.proofs.FillLaws.{part_ordered, part_inside, part_wrote}
use Rattle.templates.proofs.substituting.Patterns.append.Goals as goal

pub append_slice-requires-clause-ordered : goal.append_slice-requires-clause-ordered
append_slice-requires-clause-ordered c = search part_ordered

pub append_slice-requires-clause-inside : goal.append_slice-requires-clause-inside
append_slice-requires-clause-inside c = search part_inside

pub returns : goal.returns
returns c = search part_wrote
