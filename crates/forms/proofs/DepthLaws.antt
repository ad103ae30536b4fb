-- Depth: over a list it is that of the trees; and the ways through its loops. Assumes nothing.
use mathlib.Core.Path.{◌≡◌, refl, ap, ap₂, sym, ◌∙◌}
use mathlib.Core.Bool.{Bool, true, false}
use mathlib.Core.List.{List, [], ◌∷◌, ◌++◌, append_assoc, append-nil}
use Prim.Native.Nat.{ℕ, suc, ◌+◌, ◌-◌}
use native.Mathlib.Nat.{zero-add, add-zero, add-suc}
use native.Mathlib.Omega.{arith}
use lib.ListN.{length}
use Rattle.trees.specs.declared.Rec.{Rec}
use Rattle.trees.specs.Choice.{pick}
use Rattle.trees.specs.Tree.{Tree, Trees, node, ∅, ◌▸◌, count, records, records_all}
use Rattle.forms.specs.Lists.{first_is}
use Rattle.forms.specs.Depth.{level_of, depths, depths_all, too_deep, first_deep, settle, read_one, expect, enter, flat_depths, first_deep_in}

-- ---- the list's depths are the trees'

length-read_one : (ns : List ℕ) → length (read_one ns) ≡ length ns
unfolding read_one
length-read_one [] = refl
length-read_one (n ∷ ns) = refl

length-expect : (c : ℕ) (ns : List ℕ) → length (expect c ns) ≡ length ns
unfolding expect
length-expect c [] = refl
length-expect c (n ∷ ns) = refl

expect-none : (ns : List ℕ) → expect 0 ns ≡ ns
unfolding expect
expect-none [] = refl
expect-none (n ∷ ns) = ap (◌∷ ns) (add-zero n)

settle-expect : (c : ℕ) (ns : List ℕ) → settle (expect (suc c) ns) ≡ expect (suc c) ns
unfolding expect settle
settle-expect c [] = refl
settle-expect c (n ∷ ns) = rw (add-suc n c)

read-expect : (c : ℕ) (ns : List ℕ) → read_one (expect (suc c) ns) ≡ expect c ns
unfolding expect read_one
read-expect c [] = refl
read-expect c (n ∷ ns) = let e : n + suc c - 1 ≡ n + c = omega arith in ap (◌∷ ns) e

-- a level that expects nothing is no level
flat_settled : (ns : List ℕ) (rs : List Rec) → flat_depths (0 ∷ ns) rs ≡ flat_depths ns rs
unfolding flat_depths settle
flat_settled ns [] = refl
flat_settled ns (r ∷ rs) = refl

module _ (ts : Trees) (ns : List ℕ) (rs : List Rec) where
  inside : (b : Bool) → flat_depths (expect (count ts) (0 ∷ read_one ns)) (records_all ts ++ rs) ≡ depths_all (length (0 ∷ read_one ns)) ts ++ flat_depths (0 ∷ read_one ns) rs →
      flat_depths (expect (count ts) (read_one ns)) (records_all ts ++ rs) ≡ depths_all (length (read_one ns)) ts ++ flat_depths (read_one ns) rs →
      flat_depths (enter b (count ts) (read_one ns)) (records_all ts ++ rs) ≡ depths_all (pick b (suc (length ns)) (length ns)) ts ++ flat_depths (read_one ns) rs
  unfolding enter expect
  inside true p q =
      rw (zero-add (count ts)) at p
      ∙ ap₂ ◌++◌ (ap (λ (d : ℕ). depths_all (suc d) ts) (length-read_one ns)) (flat_settled (read_one ns) rs)
  inside false p q = q ∙ ap (λ (d : ℕ). depths_all d ts ++ flat_depths (read_one ns) rs) (length-read_one ns)

mutual
  unfolding flat_depths depths records count

  flat_tree : (t : Tree) (ns : List ℕ) (rs : List Rec) → settle ns ≡ ns → flat_depths ns (records t ++ rs) ≡ depths (length ns) t ++ flat_depths (read_one ns) rs
  flat_tree (node h ts) ns rs e =
      rw e (ap (pick (level_of h.kind h.flags) (suc (length ns)) 0 ∷◌)
      (inside ts ns rs (level_of h.kind h.flags) (flat_trees ts (0 ∷ read_one ns) rs) (flat_trees ts (read_one ns) rs)))

  flat_trees : (ts : Trees) (ns : List ℕ) (rs : List Rec) → flat_depths (expect (count ts) ns) (records_all ts ++ rs) ≡ depths_all (length ns) ts ++ flat_depths ns rs
  flat_trees ∅ ns rs = ap (λ (x : List ℕ). flat_depths x rs) (expect-none ns)
  flat_trees (t ▸ ts) ns rs =
      ap (flat_depths (expect (suc (count ts)) ns)) (append_assoc (records t) (records_all ts) rs)
      ∙ flat_tree t (expect (suc (count ts)) ns) (records_all ts ++ rs) (settle-expect (count ts) ns)
      ∙ ap₂ (λ (d : ℕ) (x : List ℕ). depths d t ++ flat_depths x (records_all ts ++ rs)) (length-expect (suc (count ts)) ns) (read-expect (count ts) ns)
      ∙ ap (depths (length ns) t ++◌) (flat_trees ts ns rs)
      ∙ sym (append_assoc (depths (length ns) t) (depths_all (length ns) ts) (flat_depths ns rs))

-- the list's first pattern or expression at depth 65 is the trees'
pub deep_agrees : (ts : Trees) (rs : List Rec) → records_all ts ≡ rs → first_deep_in rs ≡ first_deep ts
unfolding expect flat_depths
deep_agrees ts rs e =
    ap (λ (x : List Rec). first_is too_deep (flat_depths [] x)) (sym e ∙ sym (append-nil (records_all ts)))
    ∙ ap (first_is too_deep) (flat_trees ts [] [] ∙ append-nil (depths_all 0 ts))
