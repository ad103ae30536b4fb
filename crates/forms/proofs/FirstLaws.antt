-- The first place of a number in a list is such a place, and none before it is. Assumes nothing.
use mathlib.Core.Path.{◌≡◌, refl, ap, ap₂, sym, ◌∙◌}
use mathlib.Core.Bool.{Bool, true, false}
use mathlib.Core.List.{List, [], ◌∷◌}
use Prim.Native.Nat.{ℕ, zero, suc, ◌+◌, ◌≤◌, ◌<◌}
use native.Mathlib.Omega.{arith}
use lib.Dec.{eqb}
use lib.ListN.{length, get_or, length-append}
use borrow.Author.Tests.{eqb-true, eqb-false}
use Rattle.trees.specs.Choice.{pick}
use Rattle.trees.specs.Tree.{Tree, Trees, node, ∅, ◌▸◌, records, records_all}
use Rattle.forms.specs.Lists.{first_is, kinds, kinds_all}
use Rattle.forms.specs.Depth.{level_of, depths, depths_all}

pub first-within : (v : ℕ) (xs : List ℕ) → first_is v xs ≤ length xs
unfolding first_is
first-within v [] = omega arith
first-within v (x ∷ xs) = go (eqb x v) (first-within v xs)
  where
    go : (b : Bool) → first_is v xs ≤ length xs → pick b 0 (suc (first_is v xs)) ≤ suc (length xs)
    go true h = omega arith
    go false h = omega arith

pub first-at : (v : ℕ) (xs : List ℕ) → first_is v xs < length xs → get_or xs (first_is v xs) 0 ≡ v
unfolding first_is
first-at v [] h = absurd (omega arith)
first-at v (x ∷ xs) h = go (eqb x v) refl h (first-at v xs)
  where
    go : (b : Bool) → eqb x v ≡ b → pick b 0 (suc (first_is v xs)) < suc (length xs) → (first_is v xs < length xs → get_or xs (first_is v xs) 0 ≡ v) → get_or (x ∷ xs) (pick b 0 (suc (first_is v xs))) 0 ≡ v
    go true e l k = eqb-true x v e
    go false e l k = k (omega arith)

pub first-before : (v : ℕ) (xs : List ℕ) (k : ℕ) → k < first_is v xs → get_or xs k 0 ≡ v → ⊥
unfolding first_is
first-before v [] k h e = omega arith
first-before v (x ∷ xs) k h e = go (eqb x v) refl k h e (first-before v xs)
  where
    go : (b : Bool) → eqb x v ≡ b → (j : ℕ) → j < pick b 0 (suc (first_is v xs)) → get_or (x ∷ xs) j 0 ≡ v → ((i : ℕ) → i < first_is v xs → get_or xs i 0 ≡ v → ⊥) → ⊥
    go true p j l q f = omega arith
    go false p zero l q f = eqb-false x v p q
    go false p (suc j) l q f = f j (omega arith) q

-- ---- each record has its kind and its depth

mutual
  unfolding kinds records

  length-kinds : (t : Tree) → length (kinds t) ≡ length (records t)
  length-kinds (node h ts) = ap suc (length-kinds_all ts)

  pub length-kinds_all : (ts : Trees) → length (kinds_all ts) ≡ length (records_all ts)
  length-kinds_all ∅ = refl
  length-kinds_all (t ▸ ts) =
      length-append (kinds t) (kinds_all ts) ∙ ap₂ ◌+◌ (length-kinds t) (length-kinds_all ts) ∙ sym (length-append (records t) (records_all ts))

mutual
  unfolding depths records

  length-depths : (t : Tree) (d : ℕ) → length (depths d t) ≡ length (records t)
  length-depths (node h ts) d = ap suc (length-depths_all ts (pick (level_of h.kind h.flags) (suc d) d))

  pub length-depths_all : (ts : Trees) (d : ℕ) → length (depths_all d ts) ≡ length (records_all ts)
  length-depths_all ∅ d = refl
  length-depths_all (t ▸ ts) d =
      length-append (depths d t) (depths_all d ts) ∙ ap₂ ◌+◌ (length-depths t d) (length-depths_all ts d) ∙ sym (length-append (records t) (records_all ts))
