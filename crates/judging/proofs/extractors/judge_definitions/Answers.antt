use Rattle.std.proofs.lemmas.Result.{err_from_is_err_and}
use Rattle.judging.proofs.ListLaws.{listing_end, listing_less, listing_other, listing_here, listing_flawed, listing_after, listing_next}
use Rattle.judging.proofs.extractors.judge_definitions.Goals as goal

pub loop-i-smaller-then-r : goal.loop-i-smaller-then-r
loop-i-smaller-then-r c = search listing_less

pub loop-i-preserved-then-r : goal.loop-i-preserved-then-r
loop-i-preserved-then-r c = search listing_other

pub judge_extractor-requires : goal.judge_extractor-requires
judge_extractor-requires c = search listing_here

pub returns-in_err-i : goal.returns-in_err-i
returns-in_err-i c =
    let p = err_from_is_err_and c.from_residual.result c.from_residual.ensures.1 in
    rw (p.1, p.2) (search (listing_flawed, c.in_err-i.ensures))

pub loop-i-smaller : goal.loop-i-smaller
loop-i-smaller c = search (listing_after, c.in_ok-i.ensures)

pub loop-i-preserved : goal.loop-i-preserved
loop-i-preserved c = search (listing_next, c.in_ok-i.ensures)

pub returns : goal.returns
returns c = search listing_end
