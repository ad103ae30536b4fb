use Rattle.judging.proofs.WholeLaws.{moved-low}
use native.Mathlib.Omega.{arith}
use Rattle.judging.proofs.whole.after_list.Goals as goal

pub map_err-requires : goal.map_err-requires
map_err-requires c = λ e is r. omega (arith, moved-low _ _ _ is c.requires.low, c.requires.place_small)
