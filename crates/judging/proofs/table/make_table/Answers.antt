use Rattle.judging.proofs.TableLaws.{making-end, making_less, making-other, making-many, making-row, making-next}
use Rattle.judging.proofs.table.make_table.Goals as goal

pub loop-i-smaller-then-r : goal.loop-i-smaller-then-r
loop-i-smaller-then-r c = search making_less

pub loop-i-preserved-then-r : goal.loop-i-preserved-then-r
loop-i-preserved-then-r c = search making-other

pub returns-then-n-eq-MOST : goal.returns-then-n-eq-MOST
returns-then-n-eq-MOST c = search (making-many, c.loop-i.invariant)

pub entry_at-requires : goal.entry_at-requires
entry_at-requires c = search (making-row, c.loop-i.invariant)

pub loop-i-smaller : goal.loop-i-smaller
loop-i-smaller c = search making_less

pub loop-i-preserved : goal.loop-i-preserved
loop-i-preserved c = search making-next

pub returns : goal.returns
returns c = search making-end
