-- How far a part reads and how many records it makes: at most three for each token.
use Rattle.std.specs.Prelude.{ℕ, ◌+◌, ◌*◌, ◌≤◌, ◌≡◌, length}
use Rattle.trees.specs.Tree.{Trees, records_all}
use Rattle.tokens.specs.Input.{Input, size}
use Rattle.steps.specs.Outcome.{Outcome, accept}

-- the row ts, read from token i to j: at least u tokens, and 3 records for each of them with c to spare and d too many at most
pub record Fit (u c d : ℕ) (s : Input) (i : ℕ) (ts : Trees) (j : ℕ) : Type 0 where
  pub on : i + u ≤ j
  pub inside : i ≤ size s → j ≤ size s
  pub room : length (records_all ts) + 3 * i + c ≤ 3 * j + d

-- the same of an outcome, where it is an acceptance
pub record Sized (u c d : ℕ) (s : Input) (i : ℕ) (o : Outcome) : Type 0 where
  pub fit : (ts : Trees) (j : ℕ) → o ≡ accept ts j → Fit u c d s i ts j

-- and of a function at every token
pub record BoundedAt (u c d : ℕ) (s : Input) (f : ℕ → ℕ → Outcome) : Type 0 where
  pub sized : (k i : ℕ) → Sized u c d s i (f k i)

pub record Bounded (u c d : ℕ) (s : Input) (f : ℕ → Outcome) : Type 0 where
  pub sized : (i : ℕ) → Sized u c d s i (f i)
