-- Numbers as they are lent in every call: the tokens are bytes, the end position has 32 bits. Assumes nothing.
use Prim.Native.Nat.{ℕ, ◌<◌}
use lib.ListN.{get_or}
use Rattle.tokens.specs.Input.{Input}

pub record Lent (s : Input) : Type 0 where
  pub byte : (i : ℕ) → get_or s.tokens i 0 < 256
  pub end : s.end < 4294967296
