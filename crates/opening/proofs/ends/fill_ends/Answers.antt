use Rattle.opening.proofs.EndsLaws.{ending_start, ending_hop, ending_fits, ending_next}
use Rattle.opening.proofs.ends.fill_ends.Goals as goal

pub loop-i-init : goal.loop-i-init
loop-i-init c = search ending_start

pub hop-e-requires : goal.hop-e-requires
hop-e-requires c = search ending_hop

pub overflow_cast-ends : goal.overflow_cast-ends
overflow_cast-ends c = search ending_fits

pub loop-i-preserved : goal.loop-i-preserved
loop-i-preserved c = search ending_next
