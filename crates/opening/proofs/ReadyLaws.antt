-- What the refusals before opening give to the walk. Assumes nothing.
use mathlib.Core.Path.{◌≡◌, refl, sym, ap, ◌∙◌}
use mathlib.Core.Option.{some}
use mathlib.Core.List.{List, [], ◌∷◌, ◌++◌}
use Prim.Native.Nat.{ℕ, zero, suc, ◌+◌, ◌-◌, ◌<◌, ◌≤◌}
use native.Mathlib.Nat.{add-zero}
use native.Mathlib.Omega.{arith}
use lib.ListN.{length, drop, length-append}
use lib.Seq.{drop-drop}
use Rattle.trees.specs.declared.Rec.{Rec}
use Rattle.trees.specs.declared.Head.{Head}
use Rattle.trees.specs.Tree.{Tree, Trees, ∅, ◌▸◌, ◌⧺◌, count, firsts, others, head_of, records, records_all, trees_of}
use Rattle.records.specs.Slots.{slots, rec_at, recs}
use Rattle.expansion.specs.Nodes.{rest, tree_at, Every, EveryIn}
use Rattle.expansion.specs.Expansion.{Named, named, Extractor, Extractors, in_order, open_template, opened_templates}
use Rattle.expansion.specs.Acceptance.{Counted, AllFine}
use Rattle.expansion.specs.Flat.{span, end_of, Fits, Placed, All, called_at}
use Rattle.expansion.proofs.SpanLaws.{span-zero, firsts-add, count-firsts}
use Rattle.expansion.proofs.FlatOpening.{called_flat}
use Rattle.expansion.proofs.IndexLaws.{all-at}
use Rattle.expansion.proofs.ListLaws.{list-records}
use Rattle.expansion.proofs.StoreLaws.{call_fits}
use Rattle.grounds.specs.Leaves.{Leaves}
use Rattle.grounds.proofs.At.{all_drop, here}
use Rattle.judging.proofs.CallLaws.{count-rest}

-- ---- a fact of each node of trees is one of each of their records, by its index

every_in_both : (P : Head → Trees → Type 0) (ts us : Trees) → EveryIn P ts → EveryIn P us → EveryIn P (ts ⧺ us)
unfolding ◌⧺◌
every_in_both P ∅ us a b = b
every_in_both P (t ▸ ts) us a b = (a.0, every_in_both P ts us a.1 b)

module _ (P : Head → Trees → Type 0) where
  every_index : (rs : List Rec) (m j : ℕ) → EveryIn P (firsts m (trees_of rs)) → j < span rs m → (r : Rec) (ss : List Rec) → drop j rs ≡ r ∷ ss → P (head_of r) (firsts r.count (trees_of ss))
  unfolding trees_of firsts span
  every_index [] m j a h r ss e = absurd (omega arith)
  every_index (x ∷ rs) zero j a h r ss e = absurd (omega arith)
  every_index (x ∷ rs) (suc m) zero a h r ss e = first x r rs ss e a.0.0
    where
      first : (x r : Rec) (rs ss : List Rec) → x ∷ rs ≡ r ∷ ss → P (head_of x) (firsts x.count (trees_of rs)) → P (head_of r) (firsts r.count (trees_of ss))
      first x r rs ss e p = let q : x ≡ r = cc in let s : rs ≡ ss = cc in rw (← q, ← s) p
  every_index (x ∷ rs) (suc m) (suc j) a h r ss e =
      every_index rs (x.count + m) j (rw (firsts-add x.count m (trees_of rs)) (every_in_both P (firsts x.count (trees_of rs)) (firsts m (others x.count (trees_of rs))) a.0.1 a.1)) (omega arith) r ss e

-- ---- each call finds an argument for each MacroArg

module _ (text : List ℕ) (E : Extractors) (fine : AllFine text E [] E) (src : List ℕ) (a : All Placed (recs src)) (i : ℕ) (p : Tree) (ts : Trees)
    (tree : trees_of (drop i (recs src)) ≡ p ▸ ts) (counts : Every (Counted text E) p) where
  pub fits-calls : (k : ℕ) → i ≤ k → k < end_of (recs src) i → k < slots src → (o : Tree)
      → called_at text (opened_templates text E) (rec_at src k) (drop (k + 1) (recs src)) ≡ some o → Every (Fits ((rec_at src k).count - 1)) o
  unfolding end_of firsts
  fits-calls k h l inside o c =
      let r : Rec = rec_at src k in
      let kids : Trees = firsts (rec_at src k).count (trees_of (drop (k + 1) (recs src))) in
      let placed : Placed (rec_at src k) (drop (k + 1) (recs src)) = all-at (recs src) Placed a k (rec_at src k) (drop (k + 1) (recs src)) (here src k inside) in
      let d : drop (k - i) (drop i (recs src)) ≡ rec_at src k ∷ drop (k + 1) (recs src) = drop-drop (k - i) i (recs src) ∙ back k i h ∙ here src k inside in
      let one : EveryIn (Counted text E) (firsts 1 (trees_of (drop i (recs src)))) = rw tree (counts, tt) in
      let counted : Counted text E (head_of (rec_at src k)) kids = every_index (Counted text E) (drop i (recs src)) 1 (k - i) one (omega arith) (rec_at src k) (drop (k + 1) (recs src)) d in
      let size : count (rest kids) ≡ (rec_at src k).count - 1 = count-rest kids ∙ ap (◌- 1) (count-firsts (rec_at src k).count (trees_of (drop (k + 1) (recs src))) placed.whole) in
      rw size at (call_fits text E fine (head_of (rec_at src k)) kids o counted (sym (called_flat text (rec_at src k) (opened_templates text E) (drop (k + 1) (recs src)) placed) ∙ c))
    where
      back : (k i : ℕ) → i ≤ k → drop (i + (k - i)) (recs src) ≡ drop k (recs src)
      back k i h = let e : i + (k - i) ≡ k = omega arith in rw e

-- ---- templates are as many as extractors

order-length : {A : Type 0} (f : List (Named A) → Extractor → A) (before : List (Named A)) (E : Extractors) → length (in_order f before E) ≡ length before + length E
unfolding in_order
order-length f before [] = sym (add-zero (length before))
order-length f before (e ∷ E) = order-length f (before ++ (named e.name (f before e.value) ∷ [])) E ∙ omega (arith, length-append before (named e.name (f before e.value) ∷ []))

pub templates-length : (text : List ℕ) (E : Extractors) → length (opened_templates text E) ≡ length E
unfolding opened_templates
templates-length text E = order-length (open_template text) [] E ∙ omega arith

-- ---- a tree's records come first

pub tree-records : (src : List ℕ) (i : ℕ) (p : Tree) (ts : Trees) → All Placed (recs src) → trees_of (drop i (recs src)) ≡ p ▸ ts → drop i (recs src) ≡ records p ++ records_all ts
unfolding records_all
tree-records src i p ts a e = sym (list-records (drop i (recs src)) (all_drop Placed i (recs src) a)) ∙ ap records_all e

-- ---- leaves are passed one by one

pub leaves-span : (n : ℕ) (rs : List Rec) → Leaves n rs → span rs n ≡ n
unfolding span
leaves-span zero rs l = span-zero rs
leaves-span (suc n) [] l = absurd l
leaves-span (suc n) (r ∷ rs) l = let e : r.count + n ≡ n = omega (arith, l.0) in ap suc (rw e (leaves-span n rs l.1))

pub others-at : (n : ℕ) (ts : Trees) (d : Tree) → n < count ts → others n ts ≡ tree_at ts n d ▸ others (suc n) ts
unfolding others count tree_at
others-at n ∅ d h = absurd (omega arith)
others-at zero (t ▸ ts) d h = refl
others-at (suc n) (t ▸ ts) d h = others-at n ts d (omega arith)
