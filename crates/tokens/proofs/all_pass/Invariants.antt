use mathlib.Core.Path.{◌≡◌}
use mathlib.Core.Bool.{◌&&◌}
use lib.ListN.{drop}
use Rattle.std.specs.List.{list_all}
use Rattle.tokens.proofs.all_pass.Given as goal

abbrev pub invariant-loop-c : goal.invariant-loop-c
invariant-loop-c g l = list_all g.passes l.s ≡ (l.all && list_all g.passes (drop l.c-index l.s))
