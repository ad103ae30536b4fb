-- A case of opening that fits the buffers.
use Rattle.std.specs.Prelude.{◌≤◌}
use Rattle.replay.specs.declared.open_cases.Opening.{Opening}

pub record SmallOpening (c : Opening) : Type 0 where
  pub text : c.text ≤ 98304
  pub defs : c.defs ≤ 98304
  pub pattern : c.pattern ≤ 98304
  pub store : c.store ≤ 98304
  pub out : c.out ≤ 98304
  pub stored : c.stored ≤ 98304
  pub written : c.written ≤ 98304
