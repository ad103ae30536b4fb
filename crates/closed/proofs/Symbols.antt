-- A good token's symbol lies in the text, and so does what is left of a constant without its `$`. A name is not empty, nor is what is
-- left of a constant. Assumes nothing.
use Prim.Native.Nat.{ℕ, ◌+◌, ◌/◌, ◌%◌, ◌≤◌, ◌<◌}
use native.Mathlib.Omega.{arith}
use mathlib.Core.Path.{◌≡◌}
use mathlib.Core.Bool.{true}
use mathlib.Core.List.{List}
use lib.ListN.{length}
use lib.Dec.{eqb, ltb}
use borrow.Author.Tests.{lt-ltb, ltb-false}
use Rattle.trees.specs.Names.{spelled, Nonempty, without_first}
use Rattle.trees.proofs.Laws.{spelled-within, spelled_nonempty}
use Rattle.tokens.specs.Token.{token_at}
use Rattle.tokens.specs.Lent.{good_symbol, good_value, good_words, good_token}
use Rattle.tokens.specs.Input.{Input, peek, size}
use Rattle.grammar.specs.Lexical.{Symbol, Identifier, identifier}
use Rattle.grammar.specs.Meaning.{GoodList}
use Rattle.grammar.proofs.Lexemes.{there}
use Rattle.grammar.proofs.Places.{passed, taken}

-- a range lies inside a text of t bytes
abbrev pub Inside : ℕ → ℕ → Type 0
Inside t a = a / 4294967296 + a % 4294967296 ≤ t

symbol-inside : (text : List ℕ) (a : ℕ) → good_symbol text a ≡ true → Inside (length text) a
unfolding good_symbol
symbol-inside text a e = ltb-false (length text) _ (passed (ltb (length text) (a / 4294967296 + a % 4294967296)) e).0

value-inside : (text : List ℕ) (b c : ℕ) → good_value text 3 b c ≡ true → good_symbol text b ≡ true
unfolding good_value
value-inside text b c e = taken (eqb c 0) e

words_inside : (text : List ℕ) (end a b c : ℕ) → a / 1152921504606846976 ≡ 3 → good_words text end a b c ≡ true → Inside (length text) b
unfolding good_words
words_inside text end a b c k e =
    let f = (passed (ltb 5 (a / 1152921504606846976)) (passed (eqb (a / 1152921504606846976) 0) e).1).1 in
    let v : good_value text (a / 1152921504606846976) b c ≡ true = (passed (ltb end (a % 4294967296)) (taken (eqb (a / 4294967296 % 268435456) 0) f)).1 in
    symbol-inside text b (value-inside text b c (rw k at v))

pub inside : {s : Input} {i : ℕ} → GoodList s → Symbol s i → Inside (length s.text) (peek s i).word1
unfolding token_at good_token
inside {s} {i} g h =
    let l : i < size s = there h (omega arith) in
    let e = lt-ltb i (size s) l in
    rw e (words_inside s.text s.end _ _ _ (rw e at h.is) (g.good i l))

-- ---- names

not_empty : {b : List ℕ} → Identifier b → 0 < length b
not_empty (identifier p q) = omega arith

pub name_nonempty : (text : List ℕ) (a : ℕ) → Identifier (spelled text a) → Nonempty a
name_nonempty text a d = spelled_nonempty text a (not_empty d)

pub cut_inside : (text : List ℕ) (a : ℕ) → 1 < length (spelled text a) → Inside (length text) a → Inside (length text) (without_first a)
cut_inside text a l h = omega (arith, l, h, spelled-within text a)
