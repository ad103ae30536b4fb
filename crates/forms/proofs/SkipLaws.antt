-- Passing trees, and the first MacroArg: on trees, over a list, and the ways through the loops. Assumes nothing.
use mathlib.Core.Path.{◌≡◌, refl, ap, ap₂, sym, ◌∙◌}
use mathlib.Core.List.{List, [], ◌∷◌, ◌++◌, append_assoc}
use Prim.Native.Nat.{ℕ, zero, suc, ◌+◌, ◌-◌, ◌≤◌, ◌<◌, max}
use native.Mathlib.Nat.{zero-add, add-zero, suc-add}
use native.Mathlib.Omega.{arith}
use lib.Dec.{eqb, leb}
use lib.ListN.{length, length-append}
use borrow.Author.Tests.{leb-true, leb-false}
use mathlib.Core.Bool.{Bool, true, false}
use Rattle.std.specs.Prelude.{Option, Some, None, unwrap_or}
use Rattle.trees.specs.declared.Rec.{Rec}
use Rattle.trees.specs.Choice.{pick}
use Rattle.trees.specs.Tree.{Tree, Trees, node, ∅, ◌▸◌, count, records, records_all}
use Rattle.records.specs.Slots.{slots, rec_at, recs}
use Rattle.forms.specs.Lists.{left, skip, FirstToPass, first_of, first_is, kinds, kinds_all, kinds_of, macro_arg, first_macro_arg}
use Rattle.forms.proofs.ListLaws.{left-more, left-none, left-all}

-- ---- passing trees

mutual
  unfolding skip records count

  skip-tree : (t : Tree) (n : ℕ) (rs : List Rec) → skip (suc n) (records t ++ rs) ≡ length (records t) + skip n rs
  skip-tree (node h ts) n rs =
      let a : n + count ts ≡ count ts + n = omega arith in
      rw (a, skip-trees ts n rs) (omega arith)

  pub skip-trees : (ts : Trees) (n : ℕ) (rs : List Rec) → skip (count ts + n) (records_all ts ++ rs) ≡ length (records_all ts) + skip n rs
  skip-trees ∅ n rs = rw (zero-add, zero-add)
  skip-trees (t ▸ ts) n rs =
      rw (suc-add, append_assoc (records t) (records_all ts) rs, skip-tree t (count ts + n) (records_all ts ++ rs), skip-trees ts n rs, length-append) (omega arith)

pub skip-none : (rs : List Rec) → skip 0 rs ≡ 0
unfolding skip
skip-none [] = refl
skip-none (r ∷ rs) = refl

-- the first tree, and the first trees, of a list are passed whole
pub skip-one : (t : Tree) (rs : List Rec) → skip 1 (records t ++ rs) ≡ length (records t)
skip-one t rs = skip-tree t 0 rs ∙ omega (arith, skip-none rs)

pub skip-row : (ts : Trees) (rs : List Rec) → skip (count ts) (records_all ts ++ rs) ≡ length (records_all ts)
skip-row ts rs =
    let z : count ts + 0 ≡ count ts = omega arith in
    (rw z at (skip-trees ts 0 rs)) ∙ omega (arith, skip-none rs)

module _ (list : List ℕ) (i m f : ℕ) (inv : i + skip m (left list i) ≡ f) where
  pub skip_done : m ≡ 0 → i ≡ f
  skip_done e = let z : skip m (left list i) ≡ 0 = rw e (skip-none (left list i)) in omega arith

  pub skip_again : (n : ℕ) (r : Rec) → r ≡ rec_at list i → n ≡ slots list → i < n → (m ≡ 0 → ⊥) → i + 1 + skip (m - 1 + r.count) (left list (i + 1)) ≡ f
  unfolding skip
  skip_again n r e q h k = go m k refl
    where
      turn : (p : ℕ) → suc p ≡ m → skip m (left list i) ≡ suc (skip (p + r.count) (left list (i + 1)))
      turn p d = let l : i < slots list = omega arith in rw (← d, left-more list i l, e)

      go : (p : ℕ) → (p ≡ 0 → ⊥) → p ≡ m → i + 1 + skip (m - 1 + r.count) (left list (i + 1)) ≡ f
      go zero z d = absurd (z refl)
      go (suc p) z d =
          let o : m - 1 ≡ p = omega arith in
          rw o (omega (arith, turn p d))

-- behind the list nothing is passed
pub skip_ended : (list : List ℕ) (at n end i m f : ℕ) → i + skip m (left list i) ≡ at + skip n (left list at) → end ≡ slots list → end ≤ i → (at ≤ end → i ≤ end) → f ≡ max at end → f ≡ at + skip n (left list at)
unfolding skip
skip_ended list at n end i m f inv all h k e = go (leb end at) refl
  where
    gone : (j p : ℕ) → slots list ≤ j → skip p (left list j) ≡ 0
    gone j p l = rw (left-none list j l)

    go : (b : Bool) → leb end at ≡ b → f ≡ at + skip n (left list at)
    go true q = omega (arith, leb-true end at q, gone at n (omega (arith, leb-true end at q)))
    go false q = omega (arith, leb-false end at q, gone i m (omega arith), k (omega (arith, leb-false end at q)))

-- ---- the first MacroArg

kinds_of-append : (a b : List Rec) → kinds_of (a ++ b) ≡ kinds_of a ++ kinds_of b
unfolding kinds_of
kinds_of-append [] b = refl
kinds_of-append (r ∷ a) b = ap (r.kind ∷◌) (kinds_of-append a b)

mutual
  unfolding kinds_of kinds records

  kinds-tree : (t : Tree) → kinds_of (records t) ≡ kinds t
  kinds-tree (node h ts) = ap (h.kind ∷◌) (kinds-trees ts)

  pub kinds-trees : (ts : Trees) → kinds_of (records_all ts) ≡ kinds_all ts
  kinds-trees ∅ = refl
  kinds-trees (t ▸ ts) = kinds_of-append (records t) (records_all ts) ∙ ap₂ ◌++◌ (kinds-tree t) (kinds-trees ts)

-- the list's first MacroArg is the trees'
pub macro_arg_agrees : (ts : Trees) (rs : List Rec) → records_all ts ≡ rs → first_macro_arg rs ≡ first_is macro_arg (kinds_all ts)
macro_arg_agrees ts rs e = ap first_macro_arg (sym e) ∙ ap (first_is macro_arg) (kinds-trees ts)

-- ---- the first record that passes a test, by what a closure answers at each

module _ (test : Rec → Bool) (l : List ℕ) where
  passed : (i k : ℕ) → k + i ≡ slots l → ((j : ℕ) → j < slots l → test (rec_at l j) ≡ false) → first_of test (left l i) ≡ slots l - i
  unfolding first_of
  passed i zero e h = let z : slots l - i ≡ 0 = omega arith in rw (left-none l i (omega arith), z)
  passed i (suc k) e h =
      let z : slots l - i ≡ suc (slots l - (i + 1)) = omega arith in
      rw (left-more l i (omega arith), h i (omega arith), z) (ap suc (passed (i + 1) k (omega arith) h))

  found : (i k n : ℕ) → k + i ≡ n → n < slots l → test (rec_at l n) ≡ true → ((j : ℕ) → j < n → test (rec_at l j) ≡ false) → first_of test (left l i) ≡ n - i
  unfolding first_of
  found i zero n e h t f = let z : n - i ≡ 0 = omega arith in let y : i ≡ n = omega arith in rw (left-more l i (omega arith), z, y, t)
  found i (suc k) n e h t f =
      let z : n - i ≡ suc (n - (i + 1)) = omega arith in
      rw (left-more l i (omega arith), f i (omega arith), z) (ap suc (found (i + 1) k n (omega arith) h t f))

  pub first_where : (P : Rec → Bool → Type 0) (o : Option ℕ) → FirstToPass P l o → ((r : Rec) (b : Bool) → P r b → b ≡ test r) → unwrap_or o (slots l) ≡ first_of test (recs l)
  first_where P None f k =
      let z : slots l - 0 ≡ slots l = omega arith in
      sym (rw (left-all l, z) at (passed 0 (slots l) (add-zero _) (λ j h. sym (k _ _ (f.nowhere j h)))))
  first_where P (Some i) f k =
      let z : i - 0 ≡ i = omega arith in
      sym (rw (left-all l, z) at (found 0 i i (add-zero _) f.inside (sym (k _ _ f.here)) (λ j h. sym (k _ _ (f.before j h)))))

pub first_kind : (v : ℕ) (rs : List Rec) → first_of (λ r. eqb r.kind v) rs ≡ first_is v (kinds_of rs)
unfolding first_of first_is kinds_of
first_kind v [] = refl
first_kind v (r ∷ rs) = ap (λ (n : ℕ). pick (eqb r.kind v) 0 (suc n)) (first_kind v rs)
