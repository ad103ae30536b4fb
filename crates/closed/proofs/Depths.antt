-- The nesting of the grammar is the depth of the forms: trees of their kind that are nested at most 64 deep have no level at depth 65. Assumes nothing.
use Prim.Native.Nat.{ℕ, suc, ◌+◌, ◌≤◌, ◌<◌}
use native.Mathlib.Omega.{arith}
use mathlib.Core.Path.{◌≡◌, refl, ap, sym, ◌∙◌}
use mathlib.Core.Bool.{Bool, true, false}
use mathlib.Core.List.{List, [], ◌∷◌, ◌++◌}
use lib.ListN.{length}
use lib.Dec.{eqb}
use borrow.Author.Tests.{eqb-true, ltb-true, ne_eqb}
use Rattle.trees.specs.declared.Head.{Head}
use Rattle.trees.specs.Choice.{pick}
use Rattle.tokens.specs.Input.{Input}
use Rattle.trees.specs.Tree.{Tree, Trees, node, ∅, ◌▸◌, count, record_of}
use Rattle.grammar.specs.Depth.{level, depth, deepest}
use Rattle.forms.specs.Tests.{◌and◌}
use Rattle.forms.specs.Kinds.{Entry, none, rows, find, row_for}
use Rattle.forms.specs.Forms.{stands, good, children, next, rest, of_sort, of_sorts}
use Rattle.forms.specs.Lists.{first_is, kinds, kinds_all, macro_arg}
use Rattle.forms.specs.Depth.{is_level, level_of, depths, depths_all, too_deep}
use Rattle.forms.proofs.TestLaws.{both}
use Rattle.closed.proofs.Rows.{PlainTree, plain, PlainTrees, no_tree, and_tree}

-- ---- a number that does not occur

pub data Absent (v : ℕ) : List ℕ → Type 0 where
  nowhere : Absent v []
  nor_here : {x : ℕ} {xs : List ℕ} → eqb x v ≡ false → Absent v xs → Absent v (x ∷ xs)

absent_append : {v : ℕ} {xs ys : List ℕ} → Absent v xs → Absent v ys → Absent v (xs ++ ys)
absent_append nowhere q = q
absent_append (nor_here e p) q = nor_here e (absent_append p q)

pub absent_first : {v : ℕ} {xs : List ℕ} → Absent v xs → first_is v xs ≡ length xs
unfolding first_is
absent_first nowhere = refl
absent_first (nor_here e p) = rw e (ap suc (absent_first p))

-- ---- MacroArgs

mutual
  unfolding kinds

  plain-tree : {s : Input} {x : Tree} → PlainTree s x → Absent macro_arg (kinds x)
  plain-tree (plain e p) = nor_here e.no_arg (plain-trees p)

  pub plain-trees : {s : Input} {xs : Trees} → PlainTrees s xs → Absent macro_arg (kinds_all xs)
  plain-trees no_tree = nowhere
  plain-trees (and_tree p q) = absent_append (plain-tree p) (plain-trees q)

-- ---- levels

-- in every row of the table, the kinds that are levels are the patterns and the expressions
levels : List Entry → Bool
levels [] = true
levels (e ∷ es) = eqb (level e.kind) (pick (is_level e.row.sort) 1 0) and levels es

all_levels : levels rows ≡ true
unfolding levels rows is_level ◌and◌
all_levels = refl

found-level : (k v : ℕ) (es : List Entry) → levels es ≡ true → 0 < (find k v es).flags → level k ≡ pick (is_level (find k v es).sort) 1 0
unfolding levels find
found-level k v [] l h = absurd (omega arith)
found-level k v (e ∷ es) l h = go (eqb e.kind k and eqb e.by_flags v) refl h (λ j. found-level k v es (both l).1 j)
  where
    go : (b : Bool) → eqb e.kind k and eqb e.by_flags v ≡ b → 0 < (pick b e.row (find k v es)).flags → (0 < (find k v es).flags → level k ≡ pick (is_level (find k v es).sort) 1 0) → level k ≡ pick (is_level (pick b e.row (find k v es)).sort) 1 0
    go true q j f = ap level (sym (eqb-true e.kind k (both q).0)) ∙ eqb-true _ _ (both l).0
    go false q j f = f j

good-level : (t s : ℕ) (h : Head) (n : ℕ) → good t s (record_of h n) ≡ true → level h.kind ≡ pick (level_of h.kind h.flags) 1 0
unfolding row_for stands
good-level t s h n e =
    let f : h.flags < (row_for h.kind h.flags).flags = ltb-true _ _ (both (both (both e).1).1).0 in
    found-level h.kind (pick (eqb h.kind 20) h.flags 0) rows all_levels (omega arith)

-- ---- depth

-- one level more, or none
deeper : (b : Bool) (k d n : ℕ) {ns : ℕ → List ℕ} → k ≡ pick b 1 0 → d + (k + n) ≤ 64 → ((e : ℕ) → e + n ≤ 64 → Absent too_deep (ns e)) → Absent too_deep (pick b (suc d) 0 ∷ ns (pick b (suc d) d))
deeper true k d n q l f = nor_here (ne_eqb (suc d) too_deep (λ z. omega arith)) (f (suc d) (omega arith))
deeper false k d n q l f = nor_here refl (f d (omega arith))

mutual
  unfolding depths deepest of_sort

  shallow-tree : (x : Tree) (t s d : ℕ) → of_sort t s x ≡ true → d + depth x ≤ 64 → Absent too_deep (depths d x)
  shallow-tree (node h ts) t s d e l =
      deeper (level_of h.kind h.flags) (level h.kind) d (deepest ts) {ns = λ c. depths_all c ts} (good-level t s h (count ts) (both e).0) l
      (λ c m. shallow-trees ts t none (children (record_of h (count ts))) c (both e).1 m)

  pub shallow-trees : (xs : Trees) (t b : ℕ) (ss : List ℕ) (d : ℕ) → of_sorts t b ss xs ≡ true → d + deepest xs ≤ 64 → Absent too_deep (depths_all d xs)
  shallow-trees ∅ t b ss d e l = nowhere
  shallow-trees (x ▸ xs) t b ss d e l = absent_append (shallow-tree x t (next b ss) d (both e).0 (omega arith)) (shallow-trees xs t b (rest ss) d (both e).1 (omega arith))
