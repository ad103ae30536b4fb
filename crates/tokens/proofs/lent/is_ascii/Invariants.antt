use mathlib.Core.Path.{◌≡◌}
use lib.ListN.{drop}
use Rattle.tokens.specs.Lent.{ascii}
use Rattle.tokens.proofs.LentLaws.{ascii_from}
use Rattle.tokens.proofs.lent.is_ascii.Given as goal

abbrev pub invariant-loop-c : goal.invariant-loop-c
invariant-loop-c l = ascii l.s ≡ ascii_from l.highest (drop l.c-index l.s)
