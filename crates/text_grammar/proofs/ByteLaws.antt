-- The first byte of 128 or more, and texts without one. Assumes nothing.
use Prim.Native.Nat.{ℕ, zero, suc, ◌+◌, ◌-◌, ◌<◌, ◌≤◌}
use native.Mathlib.Omega.{arith}
use mathlib.Core.Path.{◌≡◌, refl}
use mathlib.Core.List.{List, [], ◌∷◌}
use mathlib.Core.Bool.{Bool, true, false}
use lib.ListN.{length, get_or}
use lib.Dec.{ltb}
use borrow.Author.Tests.{ltb-true, ltb-false}
use Rattle.trees.specs.Choice.{choose}
use Rattle.tokens.specs.Lent.{ascii}
use Rattle.lexer.specs.Lexer.{run_end}
use Rattle.lexer.proofs.RangeLaws.{run-above}
use Rattle.texts.specs.TextReading.{is_ascii, first_high}
use Rattle.texts.proofs.ReadLaws.{ascii-before}
use Rattle.text_grammar.specs.TextMeaning.{Plain, FirstHigh}

-- the byte where the run ends, and those before it
high-at : (cs : List ℕ) (i : ℕ) → run_end is_ascii cs i < i + length cs → 128 ≤ get_or cs (run_end is_ascii cs i - i) 0
unfolding run_end is_ascii
high-at [] i h = absurd (omega arith)
high-at (c ∷ cs) i h = go (ltb c 128) refl h (λ l. high-at cs (i + 1) l)
  where
    go : (b : Bool) → ltb c 128 ≡ b → choose b (λ _. run_end is_ascii cs (i + 1)) (λ _. i) < i + suc (length cs) → (run_end is_ascii cs (i + 1) < i + 1 + length cs → 128 ≤ get_or cs (run_end is_ascii cs (i + 1) - (i + 1)) 0)
        → 128 ≤ get_or (c ∷ cs) (choose b (λ _. run_end is_ascii cs (i + 1)) (λ _. i) - i) 0
    go true e l f =
        let z : run_end is_ascii cs (i + 1) - i ≡ suc (run_end is_ascii cs (i + 1) - (i + 1)) = omega (arith, run-above cs is_ascii (i + 1)) in
        rw z (f (omega arith))
    go false e l f = let z : i - i ≡ 0 = omega arith in rw z (ltb-false c 128 e)

low-at : (cs : List ℕ) (i k : ℕ) → i + k < run_end is_ascii cs i → get_or cs k 0 < 128
unfolding run_end is_ascii
low-at [] i k h = absurd (omega arith)
low-at (c ∷ cs) i k h = go k (ltb c 128) refl h (λ n l. low-at cs (i + 1) n l)
  where
    go : (k : ℕ) (b : Bool) → ltb c 128 ≡ b → i + k < choose b (λ _. run_end is_ascii cs (i + 1)) (λ _. i) → ((n : ℕ) → i + 1 + n < run_end is_ascii cs (i + 1) → get_or cs n 0 < 128) → get_or (c ∷ cs) k 0 < 128
    go zero true e l f = ltb-true c 128 e
    go (suc k) true e l f = f k (omega arith)
    go k false e l f = absurd (omega arith)

pub first-high : (text : List ℕ) → length text ≤ 65536 → first_high text < length text → FirstHigh text (first_high text)
first-high text b h =
    let z : run_end is_ascii text 0 - 0 ≡ run_end is_ascii text 0 = omega arith in
    record { short = b; there = h; high = omega (arith, rw z at (high-at text 0 (omega arith))); low-before = λ i l. low-at text 0 i (omega arith) }

pub plain-text : (text : List ℕ) → length text ≤ 65536 → length text ≤ first_high text → Plain text
plain-text text b h = record { short = b; low = λ i l. low-at text 0 i (omega arith) }

pub no_high : {text : List ℕ} {p : ℕ} → Plain text → FirstHigh text p → ⊥
no_high {p = p} q f = omega (arith, q.low p f.there, f.high)

pub ascii-plain : {text : List ℕ} → Plain text → ascii text ≡ true
ascii-plain {text} q = go (ascii text) refl
  where
    go : (b : Bool) → ascii text ≡ b → b ≡ true
    go true e = refl
    go false e = absurd (no_high q (first-high text q.short (omega (arith, ascii-before text 0 e))))

pub no_high_first : {text : List ℕ} → Plain text → length text ≤ first_high text
no_high_first {text} q = go (ltb (first_high text) (length text)) refl
  where
    go : (b : Bool) → ltb (first_high text) (length text) ≡ b → length text ≤ first_high text
    go true e = absurd (no_high q (first-high text q.short (ltb-true (first_high text) (length text) e)))
    go false e = ltb-false (first_high text) (length text) e
