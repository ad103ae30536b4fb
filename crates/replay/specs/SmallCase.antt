-- A case of an entry with one output that fits the buffers.
use Rattle.std.specs.Prelude.{◌≤◌}
use Rattle.replay.specs.declared.output_cases.Case.{Case}

pub record SmallCase (c : Case) : Type 0 where
  pub text : c.text ≤ 65537
  pub first : c.first ≤ 24576
  pub second : c.second ≤ 24576
  pub records : c.records ≤ 24576
