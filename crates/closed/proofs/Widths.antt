-- What a token holds has the widths of a record's fields, where the tokens are bytes. Assumes nothing.
use Prim.Native.Nat.{ℕ, ◌+◌, ◌*◌, ◌≤◌, ◌<◌}
use native.Mathlib.Omega.{arith}
use mathlib.Core.Bool.{Bool, true, false}
use lib.Dec.{ltb}
use Rattle.trees.specs.Choice.{pick}
use Rattle.trees.specs.Tree.{head}
use Rattle.words.specs.Words.{half_at, word_at}
use Rattle.tokens.specs.Token.{token_of, past_last, token_at}
use Rattle.tokens.specs.Input.{Input, peek, pos_at, size}
use Rattle.closed.proofs.Lent.{Lent}
use Rattle.closed.proofs.Rows.{Narrow}
use Rattle.closed.proofs.Symbols.{Inside}

-- a range inside a text within the limits
pub low-range : (t a : ℕ) → t ≤ 65536 → Inside t a → a < 18446744073709551616
low-range t a l h = omega arith

module _ {s : Input} (d : Lent s) where
  half_low : (k : ℕ) → half_at s.tokens k < 4294967296
  unfolding half_at
  half_low k = omega (arith, d.byte k, d.byte (k + 1), d.byte (k + 2), d.byte (k + 3))

  word_low : (k : ℕ) → word_at s.tokens k < 18446744073709551616
  unfolding word_at
  word_low k = omega (arith, half_low k, half_low (k + 4))

module _ (s : Input) (i : ℕ) where
  -- both words of the token at i, with its position
  pub both_words : {k f : ℕ} → Lent s → Narrow (head k f (pos_at s i) (peek s i).word1 (peek s i).word2)
  unfolding token_at
  both_words {k} {f} d = go (ltb i (size s))
    where
      a : ℕ
      a = word_at s.tokens (i * 24)

      b : ℕ
      b = word_at s.tokens (i * 24 + 8)

      c : ℕ
      c = word_at s.tokens (i * 24 + 16)

      go : (x : Bool) → Narrow (head k f (pick x (token_of a b c) (past_last s.end)).pos (pick x (token_of a b c) (past_last s.end)).word1 (pick x (token_of a b c) (past_last s.end)).word2)
      go true = record { pos = omega arith; word1 = word_low d (i * 24 + 8); word2 = word_low d (i * 24 + 16) }
      go false = record { pos = d.end; word1 = omega arith; word2 = omega arith }

  -- its position alone
  pub at : {k f : ℕ} → Lent s → Narrow (head k f (pos_at s i) 0 0)
  at d = record { pos = (both_words {k = 33} {f = 0} d).pos; word1 = omega arith; word2 = omega arith }

-- no position and no words
pub bare : {s : Input} {k f : ℕ} → Lent s → Narrow (head k f 0 0 0)
bare d = record { pos = omega arith; word1 = omega arith; word2 = omega arith }
