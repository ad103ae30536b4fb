use Rattle.opening.proofs.EndsLaws.{hop-long, hop-next}
use Rattle.opening.proofs.ends.Forest.hop_from.Goals as goal

pub end_at-a-requires : goal.end_at-a-requires
end_at-a-requires c = search hop-long

pub loop-preserved : goal.loop-preserved
loop-preserved c = search hop-next
