-- Words that may stand there, and the modifiers of a type: where they end and the flags that they make. Assumes nothing.
use Prim.Native.Nat.{ℕ, zero, suc, ◌+◌, ◌-◌, ◌*◌, ◌<◌, ◌≤◌, max}
use native.Mathlib.Omega.{arith}
use mathlib.Core.Path.{◌≡◌, refl}
use mathlib.Core.List.{List}
use mathlib.Core.Bool.{Bool, true, false}
use Rattle.trees.specs.Choice.{pick, choose}
use Rattle.trees.specs.Tree.{Trees, ∅}
use Rattle.words.specs.Bytes.{same_bytes}
use Rattle.tokens.specs.declared.Token.{Token}
use Rattle.tokens.specs.Token.{is_symbol, is_word}
use Rattle.tokens.specs.Input.{Input, peek, pos_at, size}
use Rattle.steps.specs.Keywords.{word_extern, word_nodebug}
use Rattle.steps.specs.Outcome.{Refusal}
use Rattle.steps.specs.Outcome.{accept, refuse, refusal, ate, eat}
use Rattle.parser.specs.Types.{modifier_flags, modifiers_end, parse_modifiers}
use Rattle.grammar.specs.Lexical.{Symbol, Word}
use Rattle.grammar.specs.Grammar.{Optional, given, left, Modifiers, no_more, an_extern, a_nodebug}
use Rattle.grammar.proofs.Exact.{Reach, Exact, Judges, clash, same, Ground, plain, no_refusal, same_ground}
use Rattle.grammar.proofs.Lexemes.{there, words, symbols, one_word}

-- what a test is, where it is known whether P holds
pub is_true : {s : Input} {test : Token → Bool} {P : ℕ → Type 0} {i : ℕ} → Judges s test P → P i → test (peek s i) ≡ true
is_true {s} {test} {P} {i} t h = go (test (peek s i)) refl
  where
    go : (b : Bool) → test (peek s i) ≡ b → test (peek s i) ≡ true
    go true e = e
    go false e = absurd ((t.at i).no e h)

pub is_false : {s : Input} {test : Token → Bool} {P : ℕ → Type 0} {i : ℕ} → Judges s test P → (P i → ⊥) → test (peek s i) ≡ false
is_false {s} {test} {P} {i} t h = go (test (peek s i)) refl
  where
    go : (b : Bool) → test (peek s i) ≡ b → test (peek s i) ≡ false
    go true e = absurd (h ((t.at i).yes e))
    go false e = e

-- ---- a word that may stand there

pub record Flagged (s : Input) (w : List ℕ) (f i a : ℕ) : Type 0 where
  pub flag : ℕ
  pub optional : Optional s w f i a flag

pub optional_at : (s : Input) (w : List ℕ) (f i : ℕ) → Flagged s w f i (ate s w i)
unfolding ate
optional_at s w f i = go (is_word s.text w (peek s i)) refl
  where
    go : (b : Bool) → is_word s.text w (peek s i) ≡ b → Flagged s w f i (pick b (i + 1) i)
    go true e = record { flag = f; optional = given (((words s w).at i).yes e) }
    go false e = record { flag = 0; optional = left (((words s w).at i).no e) }

pub ate-is : {s : Input} {w : List ℕ} {f i a p : ℕ} → Optional s w f i a p → ate s w i ≡ a
unfolding ate
ate-is {s} {w} (given h) = rw (is_true (words s w) h)
ate-is {s} {w} (left n) = rw (is_false (words s w) n)

pub flag_is : {s : Input} {w : List ℕ} {f i a p : ℕ} → Optional s w f i a p → (a - i) * f ≡ p
flag_is {f = f} {i = i} (given h) = let e : i + 1 - i ≡ 1 = omega arith in rw e (omega arith)
flag_is {f = f} {i = i} (left n) = let e : i - i ≡ 0 = omega arith in rw e (omega arith)

pub data Eats (s : Input) (w : List ℕ) (i : ℕ) : Trees → ℕ → Type 0 where
  eats : {a p : ℕ} → Optional s w 1 i a p → Eats s w i ∅ a

pub exact_eat : (s : Input) (w : List ℕ) {D : Reach} → Exact s D (eat s w) (Eats s w)
unfolding eat
exact_eat s w = record { sound = λ i e. same (Eats s w i) e (eats (optional_at s w 1 i).optional); complete = λ i r. back i r; ground = λ i e z. absurd (no_refusal z) }
  where
    back : (i : ℕ) {ts : Trees} {j : ℕ} → Eats s w i ts j → accept ∅ (ate s w i) ≡ accept ts j
    back i (eats o) = rw (ate-is o)

-- ---- the modifiers of a type

pub record Modified (s : Input) (i j : ℕ) : Type 0 where
  e : ℕ
  n : ℕ
  pub modifiers : Modifiers s i j e n

-- what the reader passes over are modifiers
pub passed_over : (s : Input) (f i : ℕ) → Modified s i (modifiers_end s f i)
unfolding modifiers_end
passed_over s zero i = record { e = 0; n = 0; modifiers = no_more }
passed_over s (suc f) i = go (is_word s.text word_extern (peek s i)) (is_word s.text word_nodebug (peek s i)) refl refl (passed_over s f (i + 1))
  where
    go : (a b : Bool) → is_word s.text word_extern (peek s i) ≡ a → is_word s.text word_nodebug (peek s i) ≡ b → Modified s (i + 1) (modifiers_end s f (i + 1))
        → Modified s i (choose a (λ _. modifiers_end s f (i + 1)) (λ _. choose b (λ _. modifiers_end s f (i + 1)) (λ _. i)))
    go true b p q m = record { e = 1; n = m.n; modifiers = an_extern (((words s word_extern).at i).yes p) m.modifiers }
    go false true p q m = record { e = m.e; n = 2; modifiers = a_nodebug (((words s word_nodebug).at i).yes q) m.modifiers }
    go false false p q m = record { e = 0; n = 0; modifiers = no_more }

word-there : {s : Input} {w : List ℕ} {i : ℕ} → Word s w i → i < size s
word-there h = there h.symbol (omega arith)

-- all modifiers up to a token that is no symbol are passed over
ends_at : {s : Input} {i j e n : ℕ} (f : ℕ) → Modifiers s i j e n → (Symbol s j → ⊥) → size s ≤ f + i → modifiers_end s f i ≡ j
unfolding modifiers_end same_bytes
ends_at zero no_more z h = refl
ends_at zero (an_extern w m) z h = absurd (omega (arith, word-there w))
ends_at zero (a_nodebug w m) z h = absurd (omega (arith, word-there w))
ends_at {s} (suc f) no_more z h = rw (is_false (words s word_extern) (λ w. z w.symbol), is_false (words s word_nodebug) (λ w. z w.symbol))
ends_at {s = s} {i = i} {j = j} {n = n} (suc f) (an_extern {e = e} w m) z h = rw (is_true (words s word_extern) w) (ends_at {i = i + 1} f m z (omega arith))
ends_at {s = s} {i = i} {j = j} {e = e} (suc f) (a_nodebug {n = n} w m) z h = rw (is_false (words s word_extern) (λ v. one_word w v refl), is_true (words s word_nodebug) w) (ends_at {i = i + 1} f m z (omega arith))

flags-small : {s : Input} {i j e n : ℕ} → Modifiers s i j e n → (e ≤ 1) × (n ≤ 2)
flags-small no_more = (omega arith, omega arith)
flags-small (an_extern w m) = (omega arith, (flags-small m).1)
flags-small (a_nodebug w m) = ((flags-small m).0, omega arith)

flags-at : {s : Input} {i j e n : ℕ} (f a b : ℕ) → a ≤ 1 → b ≤ 2 → Modifiers s i j e n → (Symbol s j → ⊥) → size s ≤ f + i → modifier_flags s f a b i ≡ max a e + max b n
unfolding modifier_flags same_bytes
flags-at zero a b x y no_more z h = omega arith
flags-at zero a b x y (an_extern w m) z h = absurd (omega (arith, word-there w))
flags-at zero a b x y (a_nodebug w m) z h = absurd (omega (arith, word-there w))
flags-at {s} (suc f) a b x y no_more z h = rw (is_false (words s word_extern) (λ w. z w.symbol), is_false (words s word_nodebug) (λ w. z w.symbol)) (omega arith)
flags-at {s = s} {i = i} {j = j} {n = n} (suc f) a b x y (an_extern {e = e} w m) z h =
    let l = flags-small m in rw (is_true (words s word_extern) w) (omega (arith, l.0, flags-at {i = i + 1} f 1 b (omega arith) y m z (omega arith)))
flags-at {s = s} {i = i} {j = j} {e = e} (suc f) a b x y (a_nodebug {n = n} w m) z h =
    let l = flags-small m in
    rw (is_false (words s word_extern) (λ v. one_word w v refl), is_true (words s word_nodebug) w) (omega (arith, l.1, flags-at {i = i + 1} f a 2 x (omega arith) m z (omega arith)))

pub type_flags : {s : Input} {i j e n : ℕ} → Modifiers s i j e n → (Symbol s j → ⊥) → modifier_flags s (size s) 0 0 i ≡ e + n
type_flags {s} m z = omega (arith, flags-at (size s) 0 0 (omega arith) (omega arith) m z (omega arith))

pub data Passed (s : Input) (i : ℕ) : Trees → ℕ → Type 0 where
  passed : {j e n : ℕ} → Modifiers s i j e n → (Symbol s j → ⊥) → Passed s i ∅ j

pub exact_modifiers : (s : Input) {D : Reach} → Exact s D (parse_modifiers s) (Passed s)
unfolding parse_modifiers
exact_modifiers s {D} = record { sound = λ i e. go i (is_symbol (peek s (modifiers_end s (size s) i))) refl e; complete = λ i r. back i r; ground = λ i e z. why i (is_symbol (peek s (modifiers_end s (size s) i))) z }
  where
    why : (i : ℕ) {e : Refusal} (b : Bool)
        → choose b (λ _. refuse (refusal 18 (pos_at s (modifiers_end s (size s) i + 1)) (modifiers_end s (size s) i + 1))) (λ _. accept ∅ (modifiers_end s (size s) i)) ≡ refuse e → Ground s (D i) e
    why i true z = same_ground z (plain (modifiers_end s (size s) i + 1) (omega arith) (omega arith) (λ q. absurd (omega arith)) refl)
    why i false z = absurd (no_refusal z)

    go : (i : ℕ) {ts : Trees} {j : ℕ} (b : Bool) → is_symbol (peek s (modifiers_end s (size s) i)) ≡ b
        → choose b (λ _. refuse (refusal 18 (pos_at s (modifiers_end s (size s) i + 1)) (modifiers_end s (size s) i + 1))) (λ _. accept ∅ (modifiers_end s (size s) i)) ≡ accept ts j → Passed s i ts j
    go i true p e = absurd (clash e)
    go i false p e = same (Passed s i) e (passed (passed_over s (size s) i).modifiers (((symbols s).at (modifiers_end s (size s) i)).no p))

    back : (i : ℕ) {ts : Trees} {j : ℕ} → Passed s i ts j
        → choose (is_symbol (peek s (modifiers_end s (size s) i))) (λ _. refuse (refusal 18 (pos_at s (modifiers_end s (size s) i + 1)) (modifiers_end s (size s) i + 1))) (λ _. accept ∅ (modifiers_end s (size s) i)) ≡ accept ts j
    back i (passed m z) = rw (ends_at (size s) m z (omega arith), is_false (symbols s) z)
