-- A tally after one more record.
use Rattle.std.specs.Prelude.{◌+◌}
use Rattle.tally.specs.declared.Tally.{Tally}

abbrev pub counted : Tally → Tally
counted t = record { written = t.written + 1; space = t.space }
