-- THE PLACE of a refusal: at most the end where the parser refuses, and always within 32 bits, so that the number tells refusal and place apart.
-- Assumes nothing.
use Prim.Native.Nat.{ℕ, ◌+◌, ◌*◌, ◌/◌, ◌%◌, ◌<◌, ◌≤◌}
use native.Mathlib.Omega.{arith}
use mathlib.Core.Path.{◌≡◌, refl}
use mathlib.Core.List.{List}
use mathlib.Core.Bool.{Bool, true, false, false≢true}
use lib.Dec.{ltb, eqb}
use borrow.Author.Tests.{ltb-true, ltb-false}
use Rattle.trees.specs.Choice.{pick}
use Rattle.words.specs.Words.{word_at}
use Rattle.records.specs.Result as result
use Rattle.tokens.specs.Token.{token_of, past_last, token_at}
use Rattle.tokens.specs.Lent.{good_words, good_token}
use Rattle.tokens.specs.Input.{Input, pos_at, size}
use Rattle.parser.specs.Reading.{stopped, number}
use Rattle.grammar.specs.Meaning.{GoodList, Refused, too_much, cut_short, bad-token, too_deep, no_parse, no_space}

-- a test that is passed over, a test that is taken
pub passed : (b : Bool) {x : Bool} → pick b false x ≡ true → (b ≡ false) × (x ≡ true)
passed true e = absurd (false≢true e)
passed false e = (refl, e)

pub taken : (b : Bool) {x : Bool} → pick b x false ≡ true → x ≡ true
taken true e = e
taken false e = absurd (false≢true e)

words_placed : (text : List ℕ) (end a b c : ℕ) → good_words text end a b c ≡ true → a % 4294967296 ≤ end
unfolding good_words
words_placed text end a b c e =
    let f = (passed (ltb 5 (a / 1152921504606846976)) (passed (eqb (a / 1152921504606846976) 0) e).1).1 in
    ltb-false end _ (passed (ltb end (a % 4294967296)) (taken (eqb (a / 4294967296 % 268435456) 0) f)).0

module _ (s : Input) (k : ℕ) where
  abbrev stands : Bool → ℕ
  stands b = (pick b (token_of (word_at s.tokens (k * 24)) (word_at s.tokens (k * 24 + 8)) (word_at s.tokens (k * 24 + 16))) (past_last s.end)).pos

  -- no token of a good list stands after the end
  pub within : GoodList s → pos_at s k ≤ s.end
  unfolding token_at good_token
  within g = go (ltb k (size s)) refl
    where
      go : (b : Bool) → ltb k (size s) ≡ b → stands b ≤ s.end
      go true e = words_placed s.text s.end _ _ _ (g.good k (ltb-true k (size s) e))
      go false e = omega arith

module _ {s : Input} {space : ℕ} where
  -- the parser refuses at a token or the end
  pub placed : {code place : ℕ} → Refused s space code place → 8 ≤ code → place ≤ s.end
  placed (too_much n) h = absurd (omega arith)
  placed (cut_short c) h = absurd (omega arith)
  placed (bad-token b) h = absurd (omega arith)
  placed (too_deep {k = k} u x) h = within s k u.list-good
  placed (no_parse k u l m) h = within s k u.list-good
  placed (no_space x) h = absurd (omega arith)

  pub place-low : {code place : ℕ} → s.end < 4294967296 → Refused s space code place → place < 4294967296
  place-low e (too_much n) = omega arith
  place-low e (cut_short c) = omega arith
  place-low e (bad-token b) = omega (arith, b.there, b.limited.few)
  place-low e (too_deep {k = k} u x) = omega (arith, within s k u.list-good)
  place-low e (no_parse k u l m) = omega (arith, within s k u.list-good)
  place-low e (no_space x) = omega arith

-- numbers with places of 32 bits are equal only where refusal and place are
pub same_number : {c p d q : ℕ} → p < 4294967296 → q < 4294967296 → number (stopped c p) ≡ number (stopped d q) → (c ≡ d) × (p ≡ q)
unfolding number result.refused
same_number h l e = (omega arith, omega arith)

-- ONE REFUSAL for a number
pub one-refusal : {s : Input} {space c p d q : ℕ} → s.end < 4294967296 → Refused s space c p → Refused s space d q → number (stopped c p) ≡ number (stopped d q) → (c ≡ d) × (p ≡ q)
one-refusal e x y h = same_number (place-low e x) (place-low e y) h
