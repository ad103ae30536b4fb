-- Laws of tokens: what stands at an index, and what each test tells. Assumes nothing.
use Prim.Native.Nat.{ℕ, ◌+◌, ◌*◌, ◌/◌, ◌<◌}
use native.Mathlib.Omega.{arith}
use mathlib.Core.Path.{◌≡◌, refl}
use mathlib.Core.List.{List}
use mathlib.Core.Bool.{Bool, true, false}
use lib.ListN.{length, get_or}
use lib.Dec.{ltb, eqb}
use borrow.Author.Tests.{lt-ltb, le-ltb, ltb-false, eq-eqb, ne_eqb, eqb-true}
use Rattle.trees.specs.Choice.{pick}
use Rattle.trees.specs.Names.{spelled}
use Rattle.words.specs.Words.{word_at}
use Rattle.words.specs.Bytes.{same_bytes}
use Rattle.tokens.specs.declared.Token.{Token}
use Rattle.tokens.specs.Token.{token_count, token_of, past_last, token_at, kind_at, is_const, is_word}

pub token-there : (tokens : List ℕ) (end i a b c : ℕ) → i < length tokens / 24 → a ≡ word_at tokens (i * 24) → b ≡ word_at tokens (i * 24 + 8) → c ≡ word_at tokens (i * 24 + 16) → token_of a b c ≡ token_at tokens end i
unfolding token_at
token-there tokens end i a b c h p q r = rw (lt-ltb i (length tokens / 24) h, p, q, r)

pub kind-is : (tokens : List ℕ) (end i : ℕ) → kind_at tokens i ≡ (token_at tokens end i).kind
unfolding kind_at token_at
kind-is tokens end i = go (ltb i (token_count tokens))
  where
    go : (t : Bool) → pick t (word_at tokens (i * 24) / 1152921504606846976) 0 ≡ (pick t (token_of (word_at tokens (i * 24)) (word_at tokens (i * 24 + 8)) (word_at tokens (i * 24 + 16))) (past_last end)).kind
    go true = refl
    go false = refl

-- a token of a kind stands inside the list
pub kind-inside : (tokens : List ℕ) (end i k : ℕ) → (token_at tokens end i).kind ≡ k → 0 < k → i < token_count tokens
unfolding token_at
kind-inside tokens end i k e h = go (ltb i (token_count tokens)) refl e
  where
    go : (t : Bool) → ltb i (token_count tokens) ≡ t → (pick t (token_of (word_at tokens (i * 24)) (word_at tokens (i * 24 + 8)) (word_at tokens (i * 24 + 16))) (past_last end)).kind ≡ k → i < token_count tokens
    go true p q = borrow.Author.Tests.ltb-true i (token_count tokens) p
    go false p q = absurd (omega arith)

-- what the tests say of the kind
pub word-kind : (text w : List ℕ) (t : Token) → is_word text w t ≡ true → t.kind ≡ 3
unfolding is_word
word-kind text w t e = go (eqb t.kind 3) refl e
  where
    go : (b : Bool) → eqb t.kind 3 ≡ b → pick b (same_bytes (spelled text t.word1) w) false ≡ true → t.kind ≡ 3
    go true p q = eqb-true t.kind 3 p
    go false p q = let z : ◌≡◌ {A = ℕ} 0 1 = cc in absurd (omega arith)

pub const_kind : (text : List ℕ) (t : Token) → is_const text t ≡ true → t.kind ≡ 3
unfolding is_const
const_kind text t e = go (eqb t.kind 3) refl e
  where
    go : (b : Bool) → eqb t.kind 3 ≡ b → pick b (eqb (get_or (spelled text t.word1) 0 0) 36) false ≡ true → t.kind ≡ 3
    go true p q = eqb-true t.kind 3 p
    go false p q = let z : ◌≡◌ {A = ℕ} 0 1 = cc in absurd (omega arith)
