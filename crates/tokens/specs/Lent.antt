-- Good tokens (refusal 2): a kind from 1 to 5, spare bits zero, a position not above the end, a symbol inside the text with bytes below 128.
use Rattle.std.specs.Prelude.{ℕ, zero, suc, ◌+◌, ◌*◌, ◌/◌, ◌%◌, List, [], ◌∷◌, Bool, true, false, length, ltb, leb, eqb}
use Rattle.trees.specs.Choice.{pick, choose}
use Rattle.trees.specs.Names.{spelled}
use Rattle.words.specs.Words.{word_at}
use Rattle.tokens.specs.Token.{token_count}

unfoldable pub ascii : List ℕ → Bool
ascii [] = true
ascii (c ∷ cs) = pick (leb 128 c) false (ascii cs)

unfoldable pub good_symbol : List ℕ → ℕ → Bool
good_symbol text range = pick (ltb (length text) (range / 4294967296 + range % 4294967296)) false (ascii (spelled text range))

-- how far a range of word 1 may reach: a symbol's to the end of the text, the others have none
unfoldable pub reach : List ℕ → ℕ → ℕ
reach text kind = pick (eqb kind 3) (length text) 0

-- words 1 and 2, by the kind: an integer's are free, a symbol's word 2 and both of the others are zero
unfoldable pub good_value : List ℕ → ℕ → ℕ → ℕ → Bool
good_value text kind b c =
    pick (eqb kind 4) true
    (pick (eqb c 0) (pick (eqb kind 3) (good_symbol text b) (eqb b 0)) false)

unfoldable pub good_words : List ℕ → ℕ → ℕ → ℕ → ℕ → Bool
good_words text end a b c =
    pick (eqb (a / 1152921504606846976) 0) false
    (pick (ltb 5 (a / 1152921504606846976)) false
    (pick (eqb (a / 4294967296 % 268435456) 0)
    (pick (ltb end (a % 4294967296)) false (good_value text (a / 1152921504606846976) b c))
    false))

unfoldable pub good_token : List ℕ → List ℕ → ℕ → ℕ → Bool
good_token tokens text end i = good_words text end (word_at tokens (i * 24)) (word_at tokens (i * 24 + 8)) (word_at tokens (i * 24 + 16))

-- the first of n tokens from i on that is not good, or the index after them
unfoldable pub bad_from : List ℕ → List ℕ → ℕ → ℕ → ℕ → ℕ
bad_from tokens text end zero i = i
bad_from tokens text end (suc n) i = choose (good_token tokens text end i) (λ _. bad_from tokens text end n (i + 1)) (λ _. i)

abbrev pub first_bad : List ℕ → List ℕ → ℕ → ℕ
first_bad tokens text end = bad_from tokens text end (token_count tokens) 0
