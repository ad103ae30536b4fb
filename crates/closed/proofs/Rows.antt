-- Trees that are of their sorts, hold no MacroArg and no empty name and fit the widths of the fields, one by one and in rows; and how a node
-- is made of its children. Assumes nothing.
use Prim.Native.Nat.{ℕ, suc, ◌+◌, ◌-◌, ◌%◌, ◌≤◌, ◌<◌}
use native.Mathlib.Omega.{arith}
use mathlib.Core.Path.{◌≡◌, refl, ap, sym, ◌∙◌}
use mathlib.Core.Bool.{Bool, true, false}
use mathlib.Core.List.{List, [], ◌∷◌, ◌++◌}
use lib.ListN.{length, length-append}
use lib.Dec.{eqb, ltb, leb}
use borrow.Author.Tests.{lt-ltb, le-leb, ltb-true, leb-true, eqb-false}
use Rattle.trees.specs.declared.Head.{Head}
use Rattle.trees.specs.Choice.{pick}
use Rattle.trees.specs.Ast.{kind_identifier}
use Rattle.trees.specs.Names.{Nonempty}
use Rattle.trees.specs.Tree.{Tree, Trees, node, ∅, ◌▸◌, ◌⧺◌, count, record_of}
use Rattle.trees.proofs.Laws.{⧺-none, count_⧺}
use Rattle.tokens.specs.Input.{Input}
use Rattle.forms.specs.Kinds as kinds
use Rattle.forms.specs.Tests.{◌and◌}
use Rattle.forms.specs.Kinds.{none, tuple_field, row_for}
use Rattle.forms.specs.Forms.{placed, one, run, some, singles, leading, sorts_of, position_ok, words_ok, stands, of_sort, of_sorts, AllOfKind}
use Rattle.forms.specs.Lists.{macro_arg}
use Rattle.forms.proofs.TestLaws.{both, true_and}
use Rattle.forms.proofs.Exact.{length-one}
use Rattle.closed.proofs.Lent.{Lent}

-- ---- trees

-- position and words have the widths of their fields
pub record Narrow (h : Head) : Type 0 where
  pub pos : h.pos < 4294967296
  pub word1 : h.word1 < 18446744073709551616
  pub word2 : h.word2 < 18446744073709551616

-- no MacroArg, no Ident without a name, and what it holds has the widths of its fields
pub record Plain (s : Input) (h : Head) : Type 0 where
  pub no_arg : eqb h.kind macro_arg ≡ false
  pub named : h.kind ≡ kind_identifier → Nonempty h.word1
  pub kind : h.kind < 256
  pub flags : h.flags < 256
  pub narrow : Lent s → Narrow h

mutual
  pub data PlainTree (s : Input) : Tree → Type 0 where
    plain : {h : Head} {ts : Trees} → Plain s h → PlainTrees s ts → PlainTree s (node h ts)

  pub data PlainTrees (s : Input) : Trees → Type 0 where
    no_tree : PlainTrees s ∅
    and_tree : {x : Tree} {xs : Trees} → PlainTree s x → PlainTrees s xs → PlainTrees s (x ▸ xs)

-- a tree of the sort k over the text of s
pub record Fits (s : Input) (k : ℕ) (x : Tree) : Type 0 where
  pub kind : of_sort (length s.text) k x ≡ true
  pub plain : PlainTree s x

-- ---- rows

-- of the sorts ks, one tree each
pub data Row (s : Input) : List ℕ → Trees → Type 0 where
  end : Row s [] ∅
  next : {k : ℕ} {ks : List ℕ} {x : Tree} {xs : Trees} → Fits s k x → Row s ks xs → Row s (k ∷ ks) (x ▸ xs)

-- any number of the sort k
pub data Several (s : Input) (k : ℕ) : Trees → Type 0 where
  no_more : Several s k ∅
  more : {x : Tree} {xs : Trees} → Fits s k x → Several s k xs → Several s k (x ▸ xs)

-- any number of the sort k, from the place p on
pub data Run (s : Input) (k : ℕ) : ℕ → Trees → Type 0 where
  stop : {p : ℕ} → Run s k p ∅
  step : {p : ℕ} {x : Tree} {xs : Trees} → Fits s (placed k p) x → Run s k (suc p) xs → Run s k p (x ▸ xs)

row-kinds : {s : Input} {ks : List ℕ} {xs : Trees} → Row s ks xs → of_sorts (length s.text) none ks xs ≡ true
unfolding of_sort
row-kinds end = refl
row-kinds (next f r) = rw (f.kind, true_and) (row-kinds r)

row_plain : {s : Input} {ks : List ℕ} {xs : Trees} → Row s ks xs → PlainTrees s xs
row_plain end = no_tree
row_plain (next f r) = and_tree f.plain (row_plain r)

pub several_kinds : {s : Input} {k : ℕ} {xs : Trees} → Several s k xs → AllOfKind (length s.text) k xs
unfolding of_sort
several_kinds no_more = refl
several_kinds (more f r) = rw (f.kind, true_and) (several_kinds r)

pub several_plain : {s : Input} {k : ℕ} {xs : Trees} → Several s k xs → PlainTrees s xs
several_plain no_more = no_tree
several_plain (more f r) = and_tree f.plain (several_plain r)

count-row : {s : Input} {ks : List ℕ} {xs : Trees} → Row s ks xs → count xs ≡ length ks
unfolding count
count-row end = refl
count-row (next f r) = ap suc (count-row r)

pub row_then : {s : Input} {ks ls : List ℕ} {xs ys : Trees} → Row s ks xs → Row s ls ys → Row s (ks ++ ls) (xs ⧺ ys)
unfolding ◌⧺◌
row_then end q = q
row_then (next f r) q = next f (row_then r q)

-- one tree, and then several
pub one_more : {s : Input} {k : ℕ} {xs ys : Trees} → Row s (k ∷ []) xs → Several s k ys → Several s k (xs ⧺ ys)
unfolding ◌⧺◌
one_more (next f end) q = more f q

pub several_more : {s : Input} {k : ℕ} {xs ys : Trees} → Several s k xs → Several s k ys → Several s k (xs ⧺ ys)
unfolding ◌⧺◌
several_more no_more q = q
several_more (more f r) q = more f (several_more r q)

-- where the sort does not hold the place
pub in_place : {s : Input} {k : ℕ} {xs : Trees} → eqb k tuple_field ≡ false → (p : ℕ) → Several s k xs → Run s k p xs
unfolding placed
in_place e p no_more = stop
in_place {s} {k} e p (more {x = x} f r) = let g : Fits s (placed k p) x = rw e f in step g (in_place e (suc p) r)

run_row : {s : Input} {k p : ℕ} {xs : Trees} → Run s k p xs → Row s (run k p (count xs)) xs
unfolding run count
run_row stop = end
run_row (step f r) = next f (run_row r)

-- ---- the children of a record with the row w

record Children (s : Input) (w : kinds.Columns) (xs : Trees) : Type 0 where
  sorts : Row s (sorts_of w (count xs)) xs
  enough : singles w ≤ count xs

module _ {s : Input} (w : kinds.Columns) where
  children : {ls us zs : Trees} → Row s (leading w) ls → Run s w.any 0 us → Row s (one w.last) zs → Children s w (ls ⧺ (us ⧺ zs))
  unfolding sorts_of singles leading
  children {ls} {us} {zs} l u z =
      let a : count ls ≡ some w.first + (some w.second + some w.third) =
      count-row l ∙ simp (length-append, length-one) in
      let b : count zs ≡ some w.last = count-row z ∙ length-one w.last in
      let c : count (ls ⧺ (us ⧺ zs)) ≡ count ls + (count us + count zs) = count_⧺ ls (us ⧺ zs) ∙ ap (count ls +◌) (count_⧺ us zs) in
      let d : count (ls ⧺ (us ⧺ zs)) - singles w ≡ count us = omega arith in
      record { sorts = rw d (row_then l (row_then (run_row u) z)); enough = omega arith }

  none_last : one w.last ≡ [] → Row s (one w.last) ∅
  none_last e = rw e end

  -- without a last one
  spread : {ls us : Trees} → one w.last ≡ [] → Row s (leading w) ls → Run s w.any 0 us → Children s w (ls ⧺ us)
  spread {ls} {us} e l u = rw ⧺-none at (children {ls = ls} {us = us} {zs = ∅} l u (none_last e))

  -- with single ones alone
  fixed : {ls : Trees} → one w.last ≡ [] → Row s (leading w) ls → Children s w ls
  fixed {ls} e l = rw ⧺-none at (spread {ls = ls} {us = ∅} e l stop)

-- ---- nodes

-- what a head alone says of its node in the place of the sort k, but for its flags and widths
unfoldable pub headed : ℕ → ℕ → Head → Bool
headed t k h =
    ltb 0 k and (eqb k (placed (row_for h.kind h.flags).sort h.word1) and (position_ok (row_for h.kind h.flags).position h.pos
    and (words_ok t (row_for h.kind h.flags).words h.word1 h.word2
    and (pick (eqb h.kind macro_arg) false true and (pick (eqb h.kind kind_identifier) (ltb 0 (h.word1 % 4294967296)) true
    and (ltb h.kind 256 and leb (row_for h.kind h.flags).flags 256))))))

no_arg : (b : Bool) → pick b false true ≡ true → b ≡ false
no_arg true e = sym e
no_arg false e = refl

name_of : (k a : ℕ) (b : Bool) → eqb k kind_identifier ≡ b → pick b (ltb 0 (a % 4294967296)) true ≡ true → k ≡ kind_identifier → Nonempty a
name_of k a true p e z = ltb-true 0 _ e
name_of k a false p e z = absurd (eqb-false k kind_identifier p z)

module _ (s : Input) (k : ℕ) (h : Head) (n : Lent s → Narrow h) (e : headed (length s.text) k h ≡ true) (f : h.flags < (row_for h.kind h.flags).flags) where
  stand : (xs : Trees) → Children s (row_for h.kind h.flags) xs → stands (length s.text) k (row_for h.kind h.flags) (record_of h (count xs)) ≡ true
  unfolding headed stands
  stand xs c =
      let p = both e in
      let q = both p.1 in
      let r = both q.1 in
      let u = both r.1 in
      rw (p.0, true_and, q.0, true_and, lt-ltb h.flags (row_for h.kind h.flags).flags f, true_and, r.0, true_and, u.0, true_and) (le-leb (singles (row_for h.kind h.flags)) (count xs) c.enough)

  head_plain : Plain s h
  unfolding headed
  head_plain =
      let p = both (both (both (both (both e).1).1).1).1 in
      let m = both p.1 in
      let q = both m.1 in
      record { no_arg = no_arg (eqb h.kind macro_arg) p.0; named = name_of h.kind h.word1 (eqb h.kind kind_identifier) refl m.0; kind = ltb-true h.kind 256 q.0; flags = omega (arith, leb-true (row_for h.kind h.flags).flags 256 q.1); narrow = n }

  fits : {xs : Trees} → Children s (row_for h.kind h.flags) xs → Fits s k (node h xs)
  unfolding of_sort
  fits {xs} c = record { kind = rw (stand xs c, true_and) (row-kinds c.sorts); plain = plain head_plain (row_plain c.sorts) }

-- by the children that its row has: single ones; single ones and then any number; and then a last one
module _ {s : Input} {k : ℕ} {h : Head} (n : Lent s → Narrow h) (e : headed (length s.text) k h ≡ true) (f : h.flags < (row_for h.kind h.flags).flags) where
  pub fits_fixed : {ls : Trees} → one (row_for h.kind h.flags).last ≡ [] → Row s (leading (row_for h.kind h.flags)) ls → Fits s k (node h ls)
  fits_fixed z l = fits s k h n e f (fixed (row_for h.kind h.flags) z l)

  pub fits_spread : {ls us : Trees} → one (row_for h.kind h.flags).last ≡ [] → Row s (leading (row_for h.kind h.flags)) ls → Run s (row_for h.kind h.flags).any 0 us → Fits s k (node h (ls ⧺ us))
  fits_spread z l u = fits s k h n e f (spread (row_for h.kind h.flags) z l u)

  pub fits_last : {ls us zs : Trees} → Row s (leading (row_for h.kind h.flags)) ls → Run s (row_for h.kind h.flags).any 0 us → Row s (one (row_for h.kind h.flags).last) zs → Fits s k (node h (ls ⧺ (us ⧺ zs)))
  fits_last l u z = fits s k h n e f (children (row_for h.kind h.flags) l u z)
