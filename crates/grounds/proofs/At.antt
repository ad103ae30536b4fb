-- The records of a lent list by their indices, and the trees that begin there. Assumes nothing.
use mathlib.Core.Path.{◌≡◌, refl, sym, ap, ◌∙◌}
use mathlib.Core.Bool.{true}
use mathlib.Core.List.{List, [], ◌∷◌}
use Prim.Native.Nat.{ℕ, zero, suc, ◌+◌, ◌-◌, ◌<◌, ◌≤◌}
use native.Mathlib.Nat.{add-zero, zero-add, add_comm}
use native.Mathlib.Decide.{dec_lt}
use native.Mathlib.Omega.{arith}
use lib.ListN.{length, drop, length-drop}
use lib.Seq.{drop-drop, length-take-le}
use borrow.Author.Tests.{eq-eqb}
use Rattle.trees.specs.declared.Rec.{Rec}
use Rattle.trees.specs.Tree.{Trees, node, ◌▸◌, firsts, head_of, records, records_all, trees_of}
use Rattle.trees.proofs.Laws.{size-node}
use Rattle.records.specs.Slots.{slots, rec_at, recs_from, recs}
use Rattle.records.proofs.Reading.{recs-more, length-recs_from}
use Rattle.forms.specs.Lists.{left, skip}
use Rattle.expansion.specs.Nodes.{is_extractor}
use Rattle.expansion.specs.Flat.{span, end_of, child_at, Placed, All}
use Rattle.expansion.proofs.SpanLaws.{span_le, trees_of-after}
use Rattle.expansion.proofs.IndexLaws.{child-last, all-at}
use Rattle.expansion.proofs.ListLaws.{list-firsts}
use Rattle.grounds.specs.Leaves.{ExtractorPlaced}

-- ---- records by index

pub drop_from : (k : ℕ) (b : List ℕ) (i n : ℕ) → drop k (recs_from b i n) ≡ recs_from b (i + k) (n - k)
unfolding recs_from
drop_from zero b i n = let e : n - 0 ≡ n = omega arith in rw (add-zero i, e)
drop_from (suc k) b i zero = let e : 0 - suc k ≡ 0 = omega arith in rw e
drop_from (suc k) b i (suc n) =
    let e : suc n - suc k ≡ n - k = omega arith in
    let f : suc i + k ≡ i + suc k = omega arith in
    rw (e, ← f) (drop_from k b (suc i) n)

pub drop-recs : (b : List ℕ) (k : ℕ) → drop k (recs b) ≡ left b k
unfolding left
drop-recs b k = drop_from k b 0 (slots b) ∙ ap (λ (i : ℕ). recs_from b i (slots b - k)) (zero-add k)

pub here : (b : List ℕ) (k : ℕ) → k < slots b → drop k (recs b) ≡ rec_at b k ∷ drop (k + 1) (recs b)
unfolding left
here b k h = drop-recs b k ∙ recs-more b k h ∙ ap (rec_at b k ∷◌) (sym (drop-recs b (k + 1)))

pub length-recs : (b : List ℕ) → length (recs b) ≡ slots b
length-recs b = length-recs_from b 0 (slots b)

pub past : (b : List ℕ) (k : ℕ) → slots b ≤ k → drop k (recs b) ≡ []
unfolding left recs_from
past b k h = let e : slots b - k ≡ 0 = omega arith in drop-recs b k ∙ rw e

skip-span : (rs : List Rec) (n : ℕ) → skip n rs ≡ span rs n
unfolding skip span
skip-span [] n = refl
skip-span (r ∷ rs) zero = refl
skip-span (r ∷ rs) (suc n) = ap suc (skip-span rs (n + r.count) ∙ ap (span rs) (add_comm n r.count))

pub skip-end : (b : List ℕ) (k y : ℕ) → y ≡ k + skip 1 (left b k) → y ≡ end_of (recs b) k
unfolding end_of
skip-end b k y e = e ∙ ap (k +◌) (skip-span (left b k) 1 ∙ ap (λ (rs : List Rec). span rs 1) (sym (drop-recs b k)))

-- a fact of each record is one of each from an index on
pub all_drop : (Q : Rec → List Rec → Type 0) (i : ℕ) (m : List Rec) → All Q m → All Q (drop i m)
all_drop Q zero m a = a
all_drop Q (suc i) [] a = tt
all_drop Q (suc i) (x ∷ m) a = all_drop Q i m a.1

-- ---- the tree at an index

module _ (l : List Rec) (k : ℕ) (r : Rec) (h : drop k l ≡ r ∷ drop (k + 1) l) where
  -- its children, and the trees after it
  abbrev pub kids_at : Trees
  kids_at = firsts r.count (trees_of (drop (k + 1) l))

  pub trees-at : trees_of (drop k l) ≡ node (head_of r) kids_at ▸ trees_of (drop (end_of l k) l)
  unfolding trees_of child_at
  trees-at = rw h (ap (node (head_of r) kids_at ▸◌) (
      sym (trees_of-after (drop (k + 1) l) r.count)
      ∙ ap trees_of (drop-drop (span (drop (k + 1) l) r.count) (k + 1) l)
      ∙ ap (λ (i : ℕ). trees_of (drop i l)) (child-last l k r h)
      ))

  pub end_more : k < end_of l k
  unfolding end_of span
  end_more = rw h (omega arith)

  pub end-upto : end_of l k ≤ length l
  unfolding end_of
  end-upto =
      let n : length (drop k l) ≡ length l - k = length-drop k l in
      let m : length (drop k l) ≡ suc (length (drop (k + 1) l)) = ap length h in
      omega (arith, span_le (drop k l) 1)

  pub tree-size : All Placed l → k + length (records (node (head_of r) kids_at)) ≡ end_of l k
  unfolding end_of span
  tree-size a =
      let p : All Placed (drop (k + 1) l) = all_drop Placed (k + 1) l a in
      let n : length (records_all kids_at) ≡ span (drop (k + 1) l) r.count = ap length (list-firsts (drop (k + 1) l) r.count p) ∙ length-take-le (span (drop (k + 1) l) r.count) (drop (k + 1) l) (span_le (drop (k + 1) l) r.count) in
      rw h (omega (arith, size-node (head_of r) kids_at, ap (span (drop (k + 1) l)) (add-zero r.count)))

-- ---- an Extractor has two children at least, and its name is the next record

module _ (b : List ℕ) (i : ℕ) (r : Rec) (is : r ≡ rec_at b i) (inside : i < slots b) (x : All ExtractorPlaced (recs b)) (k : r.kind ≡ 19) where
  spot : drop i (recs b) ≡ r ∷ drop (i + 1) (recs b)
  spot = here b i inside ∙ ap (◌∷ drop (i + 1) (recs b)) (sym is)

  kind : is_extractor r.kind ≡ true
  unfolding is_extractor
  kind = eq-eqb r.kind 19 k

  pub two-children : 2 ≤ r.count
  two-children = (all-at (recs b) ExtractorPlaced x i r (drop (i + 1) (recs b)) spot).two kind

  pub second-there : i + 1 < slots b
  second-there = go (dec_lt (i + 1) (slots b))
    where
      size : r.count - 1 ≡ suc (r.count - 2)
      size = omega (arith, two-children)

      go : Dec (i + 1 < slots b) → i + 1 < slots b
      go (yes h) = h
      go (no h) =
          let z : drop (i + 1) (recs b) ≡ [] = past b (i + 1) (omega arith) in
          absurd (rw (size, z) at ((all-at (recs b) ExtractorPlaced x i r (drop (i + 1) (recs b)) spot).names kind))
