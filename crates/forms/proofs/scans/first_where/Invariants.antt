use Rattle.std.proofs.Common.{ℕ, ◌<◌, false}
use Rattle.records.specs.Slots.{rec_at}
use Rattle.forms.proofs.scans.first_where.Given as goal

abbrev pub invariant-loop-i : goal.invariant-loop-i
invariant-loop-i g l = (j : ℕ) → j < l.i → goal.F-post g l.test (rec_at l.list j) false
