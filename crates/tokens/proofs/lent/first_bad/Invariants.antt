use mathlib.Core.Path.{◌≡◌}
use Prim.Native.Nat.{◌-◌}
use Rattle.tokens.specs.Token.{token_count}
use Rattle.tokens.specs.Lent.{first_bad, bad_from}
use Rattle.tokens.proofs.lent.first_bad.Given as goal

abbrev pub invariant-loop-i : goal.invariant-loop-i
invariant-loop-i l = first_bad l.tokens l.text l.end ≡ bad_from l.tokens l.text l.end (token_count l.tokens - l.i) l.i
