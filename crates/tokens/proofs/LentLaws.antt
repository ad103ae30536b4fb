-- Laws of good tokens, one for each way through the code that judges them. Assumes nothing.
use Prim.Native.Nat.{ℕ, zero, suc, ◌+◌, ◌-◌, ◌*◌, ◌/◌, ◌%◌, ◌<◌, ◌≤◌, max}
use native.Mathlib.Omega.{arith}
use native.Mathlib.Numerals.{add-one}
use mathlib.Core.Path.{◌≡◌, refl, sym, ap, ◌∙◌}
use mathlib.Core.List.{List, [], ◌∷◌}
use mathlib.Core.Bool.{Bool, true, false, false≢true, ◌&&◌}
use lib.ListN.{length, get_or, take, drop, drop_of_length-le}
use lib.Seq.{drop-cons}
use lib.Dec.{ltb, leb, eqb}
use borrow.Author.Tests.{lt-ltb, le-ltb, leb-true, leb-false, eq-eqb, ne_eqb}
use Rattle.std.specs.List.{list_all}
use Rattle.trees.specs.Choice.{pick}
use Rattle.trees.specs.Names.{spelled}
use Rattle.words.specs.Words.{word_at}
use Rattle.tokens.specs.Token.{token_count}
use Rattle.tokens.specs.Lent.{ascii, good_symbol, reach, good_value, good_words, good_token, bad_from, first_bad}

-- all of a list below 128 and each of it
pub ascii_all : (s : List ℕ) → list_all (λ c. ltb c 128) s ≡ ascii s
unfolding ascii
ascii_all [] = refl
ascii_all (c ∷ cs) = go (leb 128 c) (list_all (λ b. ltb b 128) cs) refl (ascii_all cs)
  where
    go : (a x : Bool) → leb 128 c ≡ a → x ≡ ascii cs → (ltb c 128 && x) ≡ pick a false (ascii cs)
    go true x h e = rw (le-ltb c 128 (leb-true 128 c h))
    go false x h e = rw (lt-ltb c 128 (leb-false 128 c h)) e

-- two bytes are below 128 where the greater one is
both_below : (h c : ℕ) (x : Bool) → pick (leb 128 h) false (pick (leb 128 c) false x) ≡ pick (leb 128 (max h c)) false x
both_below h c x = go (leb 128 h) (leb 128 c) (leb 128 (max h c)) refl refl refl
  where
    go : (a b d : Bool) → leb 128 h ≡ a → leb 128 c ≡ b → leb 128 (max h c) ≡ d → pick a false (pick b false x) ≡ pick d false x
    go true b true p q r = refl
    go true b false p q r = absurd (omega (arith, leb-true 128 h p, leb-false 128 (max h c) r))
    go false true true p q r = refl
    go false true false p q r = absurd (omega (arith, leb-true 128 c q, leb-false 128 (max h c) r))
    go false false true p q r = absurd (omega (arith, leb-false 128 h p, leb-false 128 c q, leb-true 128 (max h c) r))
    go false false false p q r = refl

last : (h : ℕ) → pick (leb 128 h) false true ≡ ltb h 128
last h = go (leb 128 h) refl
  where
    go : (a : Bool) → leb 128 h ≡ a → pick a false true ≡ ltb h 128
    go true p = sym (le-ltb h 128 (leb-true 128 h p))
    go false p = sym (lt-ltb h 128 (leb-false 128 h p))

-- the highest byte so far tells of all before i
abbrev pub ascii_from : ℕ → List ℕ → Bool
ascii_from h s = pick (leb 128 h) false (ascii s)

pub ascii_start : (s : List ℕ) → ascii s ≡ ascii_from 0 (drop 0 s)
ascii_start s = refl

module _ (s : List ℕ) (i h : ℕ) (q : ascii s ≡ ascii_from h (drop i s)) where
  pub ascii_on : (g : ℕ) → i < length s → g ≡ max h (get_or s i 0) → ascii s ≡ ascii_from g (drop (i + 1) s)
  unfolding ascii
  ascii_on g l e = q ∙ rw (add-one, drop-cons s i 0 l, e) (both_below h (get_or s i 0) (ascii (drop (suc i) s)))

  pub ascii_end : length s ≤ i → ltb h 128 ≡ ascii s
  unfolding ascii
  ascii_end l = sym (q ∙ rw (drop_of_length-le s l) (last h))

symbol_outside : (text : List ℕ) (range : ℕ) → length text < range / 4294967296 + range % 4294967296 → false ≡ good_symbol text range
unfolding good_symbol
symbol_outside text range h = rw (lt-ltb (length text) (range / 4294967296 + range % 4294967296) h)

-- a part of a text below 128 is below 128
ascii_cons : (c : ℕ) (cs : List ℕ) → ascii (c ∷ cs) ≡ true → (leb 128 c ≡ false) × (ascii cs ≡ true)
unfolding ascii
ascii_cons c cs e = go (leb 128 c) refl e
  where
    go : (a : Bool) → leb 128 c ≡ a → pick a false (ascii cs) ≡ true → (leb 128 c ≡ false) × (ascii cs ≡ true)
    go true p q = absurd (false≢true q)
    go false p q = (p, q)

ascii_drop : (n : ℕ) (s : List ℕ) → ascii s ≡ true → ascii (drop n s) ≡ true
ascii_drop zero s e = e
ascii_drop (suc n) [] e = e
ascii_drop (suc n) (c ∷ cs) e = ascii_drop n cs (ascii_cons c cs e).1

ascii_take : (n : ℕ) (s : List ℕ) → ascii s ≡ true → ascii (take n s) ≡ true
unfolding ascii
ascii_take zero s e = refl
ascii_take (suc n) [] e = refl
ascii_take (suc n) (c ∷ cs) e = let p = ascii_cons c cs e in rw p.0 (ascii_take n cs p.1)

symbol-plain : (text : List ℕ) (range : ℕ) (b : Bool) → range / 4294967296 + range % 4294967296 ≤ length text → b ≡ ascii text → b ≡ true → true ≡ good_symbol text range
unfolding good_symbol spelled
symbol-plain text range b h e p =
    sym (rw (le-ltb (length text) (range / 4294967296 + range % 4294967296) h) (ascii_take (range % 4294967296) (drop (range / 4294967296) text) (ascii_drop (range / 4294967296) text (sym e ∙ p))))

symbol-inside : (text p : List ℕ) (range : ℕ) (r : Bool) → range / 4294967296 + range % 4294967296 ≤ length text → p ≡ spelled text range → r ≡ ascii p → r ≡ good_symbol text range
unfolding good_symbol
symbol-inside text p range r h e f = f ∙ rw (e, le-ltb (length text) (range / 4294967296 + range % 4294967296) h)

pub reach-symbol : (text : List ℕ) (k : ℕ) → k ≡ 3 → length text ≡ reach text k
unfolding reach
reach-symbol text k e = rw (eq-eqb k 3 e)

pub reach-other : (text : List ℕ) (k : ℕ) → (k ≡ 3 → ⊥) → 0 ≡ reach text k
unfolding reach
reach-other text k e = rw (ne_eqb k 3 e)

module _ (text : List ℕ) (k b c : ℕ) where
  pub value-int : k ≡ 4 → true ≡ good_value text k b c
  unfolding good_value
  value-int e = rw (eq-eqb k 4 e)

  pub value_spare : (k ≡ 4 → ⊥) → (c ≡ 0 → ⊥) → false ≡ good_value text k b c
  unfolding good_value
  value_spare e f = rw (ne_eqb k 4 e, ne_eqb c 0 f)

  value-symbol : (r : Bool) → (k ≡ 4 → ⊥) → c ≡ 0 → eqb k 3 ≡ true → r ≡ good_symbol text b → r ≡ good_value text k b c
  unfolding good_value
  value-symbol r e f g h = h ∙ rw (ne_eqb k 4 e, eq-eqb c 0 f, g)

  value_none : (k ≡ 4 → ⊥) → c ≡ 0 → eqb k 3 ≡ false → eqb b 0 ≡ good_value text k b c
  unfolding good_value
  value_none e f g = rw (ne_eqb k 4 e, eq-eqb c 0 f, g)

  pub value_outside : (g : ℕ) → (k ≡ 4 → ⊥) → c ≡ 0 → g ≡ reach text k → g < b / 4294967296 + b % 4294967296 → false ≡ good_value text k b c
  unfolding reach
  value_outside g e f r l = go (eqb k 3) refl r
    where
      go : (x : Bool) → eqb k 3 ≡ x → g ≡ pick x (length text) 0 → false ≡ good_value text k b c
      go true p q = value-symbol false e f p (symbol_outside text b (omega arith))
      go false p q = sym (ne_eqb b 0 (λ z. omega arith)) ∙ value_none e f p

  pub value-plain : (g : ℕ) (y : Bool) → (k ≡ 4 → ⊥) → c ≡ 0 → g ≡ reach text k → b / 4294967296 + b % 4294967296 ≤ g → y ≡ ascii text → y ≡ true → true ≡ good_value text k b c
  unfolding reach
  value-plain g y e f r l d t = go (eqb k 3) refl r
    where
      go : (x : Bool) → eqb k 3 ≡ x → g ≡ pick x (length text) 0 → true ≡ good_value text k b c
      go true p q = value-symbol true e f p (symbol-plain text b y (omega arith) d t)
      go false p q = sym (eq-eqb b 0 (omega arith)) ∙ value_none e f p

  pub value-inside : (g : ℕ) (w : List ℕ) (y : Bool) → (k ≡ 4 → ⊥) → c ≡ 0 → g ≡ reach text k → b / 4294967296 + b % 4294967296 ≤ g → w ≡ spelled text b → y ≡ ascii w → y ≡ good_value text k b c
  unfolding reach spelled ascii
  value-inside g w y e f r l d t = go (eqb k 3) refl r
    where
      go : (x : Bool) → eqb k 3 ≡ x → g ≡ pick x (length text) 0 → y ≡ good_value text k b c
      go true p q = value-symbol y e f p (symbol-inside text w b y (omega arith) d t)
      go false p q =
          let z : b ≡ 0 = omega arith in
          t ∙ ap ascii (d ∙ ap (spelled text) z) ∙ sym (eq-eqb b 0 z) ∙ value_none e f p

pub words_value : (text : List ℕ) (end a b c : ℕ) (r : Bool) → (a / 1152921504606846976 ≡ 0 → ⊥) → a / 1152921504606846976 ≤ 5 → a / 4294967296 % 268435456 ≡ 0 → a % 4294967296 ≤ end → r ≡ good_value text (a / 1152921504606846976) b c → r ≡ good_words text end a b c
unfolding good_words
words_value text end a b c r e f g h v = v ∙ rw (ne_eqb (a / 1152921504606846976) 0 e, le-ltb 5 (a / 1152921504606846976) f, eq-eqb (a / 4294967296 % 268435456) 0 g, le-ltb end (a % 4294967296) h)

pub good-is : (tokens text : List ℕ) (end i a b c : ℕ) (r : Bool) → a ≡ word_at tokens (i * 24) → b ≡ word_at tokens (i * 24 + 8) → c ≡ word_at tokens (i * 24 + 16) → r ≡ good_words text end a b c → r ≡ good_token tokens text end i
unfolding good_token
good-is tokens text end i a b c r p q s e = e ∙ rw (p, q, s)

-- the loop over the tokens: what is left is judged as the whole
bad-suc : (tokens text : List ℕ) (end n i : ℕ) → 0 < n → good_token tokens text end i ≡ true → bad_from tokens text end n i ≡ bad_from tokens text end (n - 1) (i + 1)
unfolding bad_from
bad-suc tokens text end zero i h e = absurd (omega arith)
bad-suc tokens text end (suc n) i h e = let q : suc n - 1 ≡ n = omega arith in rw (e, q)

bad-here : (tokens text : List ℕ) (end n i : ℕ) → 0 < n → good_token tokens text end i ≡ false → bad_from tokens text end n i ≡ i
unfolding bad_from
bad-here tokens text end zero i h e = absurd (omega arith)
bad-here tokens text end (suc n) i h e = rw e

module _ (tokens text : List ℕ) (end i : ℕ) (q : first_bad tokens text end ≡ bad_from tokens text end (token_count tokens - i) i) where
  pub bad-on : (r : Bool) → i < token_count tokens → r ≡ good_token tokens text end i → r ≡ true → first_bad tokens text end ≡ bad_from tokens text end (token_count tokens - (i + 1)) (i + 1)
  bad-on r h p t =
      let e : token_count tokens - i - 1 ≡ token_count tokens - (i + 1) = omega arith in
      q ∙ bad-suc tokens text end (token_count tokens - i) i (omega arith) (sym p ∙ t) ∙ rw e

  pub bad-found : (r : Bool) → i < token_count tokens → r ≡ good_token tokens text end i → r ≡ false → i ≡ first_bad tokens text end
  bad-found r h p t = sym (q ∙ bad-here tokens text end (token_count tokens - i) i (omega arith) (sym p ∙ t))

  pub bad-none : i ≡ token_count tokens → token_count tokens ≡ first_bad tokens text end
  unfolding bad_from
  bad-none h = let e : token_count tokens - i ≡ 0 = omega arith in sym h ∙ sym (q ∙ rw e)

-- what is known of tokens of which none is bad
pub bad-above : (tokens text : List ℕ) (end n i : ℕ) → i ≤ bad_from tokens text end n i
unfolding bad_from
bad-above tokens text end zero i = omega arith
bad-above tokens text end (suc n) i = go (good_token tokens text end i) (bad-above tokens text end n (i + 1))
  where
    go : (b : Bool) → i + 1 ≤ bad_from tokens text end n (i + 1) → i ≤ Rattle.trees.specs.Choice.choose b (λ _. bad_from tokens text end n (i + 1)) (λ _. i)
    go true h = omega arith
    go false h = omega arith
