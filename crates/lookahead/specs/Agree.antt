-- Two inputs that are alike as far as a parser sees which has consumed m tokens: it also sees the next one, at index m.
use Rattle.std.specs.Prelude.{ℕ, ◌≤◌, ◌≡◌, ltb}
use Rattle.tokens.specs.Input.{Input, peek, size}

-- the same text, and up to and with index m the same tokens, or none in both
pub record Agree (m : ℕ) (s t : Input) : Type 0 where
  pub text : s.text ≡ t.text
  pub tokens : (i : ℕ) → i ≤ m → peek s i ≡ peek t i
  pub ends : (i : ℕ) → i ≤ m → ltb i (size s) ≡ ltb i (size t)
