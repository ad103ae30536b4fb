-- Parts that are read with their depth, and rows of them up to a `)`. Assumes nothing.
use Prim.Native.Nat.{ℕ, ◌+◌, ◌<◌, ◌≤◌}
use native.Mathlib.Omega.{arith}
use mathlib.Core.Path.{◌≡◌}
use Rattle.trees.specs.Tree.{Trees, ∅, ◌⧺◌, count}
use Rattle.tokens.specs.Input.{Input, size}
use Rattle.steps.specs.Outcome.{Reader, row}
use Rattle.grammar.specs.Lexical.{Close, At}
use Rattle.grammar.specs.Grammar.{Part, list, Gram, empty, cons}
use Rattle.grammar.specs.Depth.{deepest}
use Rattle.grammar.specs.Nesting.{Read}
use Rattle.grammar.proofs.Exact.{Rel, Reach, Exact, exact_iff, exact_to, Many, done, next, Among, in_item, past_item, Nowhere, nowhere, exact_many}
use Rattle.grammar.proofs.Lexemes.{closes}
use Rattle.grammar.proofs.Laws.{least, deepest_⧺, begins, no_close, no_at, begun-there, fit}

-- a part with trees at most d deep, before a `)`
pub record Shut (s : Input) (x : Part) (d i : ℕ) (ts : Trees) (j : ℕ) : Type 0 where
  pub derives : Gram s x i j ts
  pub shallow : deepest ts ≤ d
  pub shuts : Close s j

-- where the depth is met in an item, after finished ones
pub data InRow (s : Input) (x : Part) (d : ℕ) (D : Reach) (i k : ℕ) : Type 0 where
  in_row : {j : ℕ} {ts : Trees} → Read s (list x) d i ts j → (Close s j → ⊥) → D j k → InRow s x d D i k

-- no items, and one before others
pub no_items : {s : Input} {x : Part} {d i : ℕ} → Read s (list x) d i ∅ i
unfolding deepest
no_items = record { derives = empty; shallow = omega arith }

pub one_more : {s : Input} {x : Part} {d i j k : ℕ} {ts us : Trees} → Read s x d i ts j → Read s (list x) d j us k → Read s (list x) d i (ts ⧺ us) k
one_more {ts = ts} {us = us} r q = record { derives = cons r.derives q.derives; shallow = omega (arith, r.shallow, q.shallow, deepest_⧺ ts us) }

-- an item takes a token that is there
pub item_on : {s : Input} {x : Part} {i j : ℕ} {ts : Trees} → least x ≡ 1 → Gram s x i j ts → (i < j) × (i < size s)
item_on e p = (omega (arith, (fit p).on), begun-there (begins p e))

-- what follows an item of a row is no `@`
row_at : {s : Input} {x : Part} {i j : ℕ} {ts : Trees} → least x ≡ 1 → Gram s (list x) i j ts → Close s j → At s i → ⊥
row_at e empty c a = omega (arith, c.is, a.is)
row_at e (cons p ps) c a = no_at (begins p e) a

-- EVERY ROW up to a `)`: items that are exact for R, which is Read and what a token that is no `@` adds to it
module _ {s : Input} {x : Part} {D : Reach} {d : ℕ} {R : Rel} {sub : Reader} (step : least x ≡ 1) (to : (i : ℕ) (ts : Trees) (j : ℕ) → R i ts j → Read s x d i ts j)
    (from : (i : ℕ) (ts : Trees) (j : ℕ) → Read s x d i ts j → (At s j → ⊥) → R i ts j) (exact : Exact s D sub R) where
  row-there : {k i j : ℕ} {ts : Trees} → Many (Close s) (λ _. R) k i ts j → Shut s (list x) d i ts j
  unfolding deepest
  row-there (done c) = record { derives = empty; shallow = omega arith; shuts = c }
  row-there (next {ts = ts} {us = us} n r rs) =
      let a = row-there rs in let b = to _ _ _ r in record { derives = cons b.derives a.derives; shallow = omega (arith, b.shallow, a.shallow, deepest_⧺ ts us); shuts = a.shuts }

  row_back : {i j : ℕ} {ts : Trees} (k : ℕ) → Gram s (list x) i j ts → deepest ts ≤ d → Close s j → Many (Close s) (λ _. R) k i ts j
  row_back k empty h c = done c
  row_back k (cons {t = t} {ts = ts} p ps) h c =
      let z = deepest_⧺ t ts in
      next (no_close (begins p step)) (from _ _ _ (record { derives = p; shallow = omega arith }) (row_at step ps c)) (row_back (k + count t) ps (omega arith) c)

  past : {i j k : ℕ} {ts : Trees} → Read s x d i ts j → InRow s x d D j k → InRow s x d D i k
  past r (in_row q n y) = in_row (one_more r q) n y

  row-deep : {c i k : ℕ} → Among (Close s) (λ _. R) D c i k → InRow s x d D i k
  row-deep (in_item n y) = in_row no_items n y
  row-deep (past_item n r y) = past (to _ _ _ r) (row-deep y)

  pub exact_row_of : Exact s (InRow s x d D) (row s sub) (Shut s (list x) d)
  exact_row_of =
      exact_iff (exact_to (λ i k y. row-deep y) (exact_many (size s) (closes s).at exact (λ i ts j r. item_on step (to i ts j r).derives)))
      (λ i ts j r. row-there r) (λ i ts j r. row_back 0 r.derives r.shallow r.shuts)

pub exact_row_in : {s : Input} {x : Part} {D : Reach} {d : ℕ} {sub : Reader} → least x ≡ 1 → Exact s D sub (Read s x d) → Exact s (InRow s x d D) (row s sub) (Shut s (list x) d)
exact_row_in step exact = exact_row_of step (λ i ts j r. r) (λ i ts j r n. r) exact

no_row : {s : Input} {x : Part} {d i k : ℕ} → InRow s x d Nowhere i k → Nowhere i k
no_row (in_row ps n y) = absurd (nowhere y)

pub exact_row : {s : Input} {x : Part} {d : ℕ} {sub : Reader} → least x ≡ 1 → Exact s Nowhere sub (Read s x d) → Exact s Nowhere (row s sub) (Shut s (list x) d)
exact_row step exact = exact_to (λ i k y. no_row y) (exact_row_in step exact)
