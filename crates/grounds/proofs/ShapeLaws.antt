-- The numbers of the three shapes of a stage are those of its fact. Assumes nothing.
use mathlib.Core.Path.{◌≡◌, refl, sym, ap, ap₂, ◌∙◌}
use mathlib.Core.Bool.{Bool, true, false}
use mathlib.Core.List.{List, [], ◌∷◌, ◌++◌}
use Prim.Native.Nat.{ℕ, zero, suc, ◌+◌, ◌-◌, ◌<◌, ◌≤◌}
use native.Mathlib.Decide.{dec_lt}
use native.Mathlib.Omega.{arith}
use lib.Dec.{eqb}
use lib.ListN.{length, get_or, length-append, get_or-append}
use lib.Seq.{get_or-append-add}
use borrow.Author.Tests.{eqb-true, eq-eqb}
use Rattle.trees.specs.Choice.{pick}
use Rattle.trees.specs.declared.Head.{Head}
use Rattle.trees.specs.Tree.{Tree, Trees, node, ∅, ◌▸◌, records, records_all}
use Rattle.grounds.specs.Facts.{NodeAt, first, below, later}
use Rattle.grounds.specs.Stages.{single, Listed, only, listed, Within, marks, marks_all, within}
use Rattle.grounds.proofs.StageLaws.{NumberAt, Numbered}

-- ---- a number at one place

-- a list of one number, which is n or 0
pub one_number : (n i m : ℕ) → get_or (n ∷ []) i 0 ≡ suc m → (i ≡ 0) × (n ≡ suc m)
one_number n zero m e = (refl, e)
one_number n (suc i) m e = absurd (omega arith)

module _ (number place : ℕ) (P : Type 0) (b : Bool) (p : 0 < number) (to : b ≡ true → P) (back : P → b ≡ true) where
  pub single_numbered : Numbered (single number place P b)
  single_numbered = record { to = λ n k a. go n k a; back = λ n k f. record { index = 0; place = f.1 ∙ sym (omega arith); number = rw (back f.2) (sym f.0); positive = omega (arith, f.0) } }
    where
      test : (c : Bool) (m : ℕ) → pick c number 0 ≡ suc m → (c ≡ true) × (suc m ≡ number)
      test true m e = (refl, sym e)
      test false m e = absurd (omega arith)

      go : (n k : ℕ) → NumberAt (single number place P b) n k → (n ≡ number) × (k ≡ place) × P
      go zero k a = absurd (omega (arith, a.positive))
      go (suc m) k a =
          let q = one_number (pick b number 0) a.index m a.number in
          let t = test b m q.1 in
          (t.1, omega (arith, a.place, q.0), to t.0)

-- ---- a number at each v

module _ (number v : ℕ) where
  pub only-found : (xs : List ℕ) (j m : ℕ) → get_or (only number v xs) j 0 ≡ suc m → (suc m ≡ number) × (j < length xs) × (get_or xs j 0 ≡ v)
  unfolding only
  only-found [] j m e = absurd (omega arith)
  only-found (x ∷ xs) zero m e = go (eqb x v) refl e
    where
      go : (b : Bool) → eqb x v ≡ b → pick b number 0 ≡ suc m → (suc m ≡ number) × (0 < suc (length xs)) × (x ≡ v)
      go true q e = (sym e, omega arith, eqb-true x v q)
      go false q e = absurd (omega arith)
  only-found (x ∷ xs) (suc j) m e = let r = only-found xs j m e in (r.0, omega (arith, r.1), r.2)

  pub only_at : (xs : List ℕ) (j : ℕ) → j < length xs → get_or xs j 0 ≡ v → get_or (only number v xs) j 0 ≡ number
  unfolding only
  only_at [] j h e = absurd (omega arith)
  only_at (x ∷ xs) zero h e = rw (eq-eqb x v e)
  only_at (x ∷ xs) (suc j) h e = only_at xs j (omega arith) e

  pub only_zero : (xs : List ℕ) (j : ℕ) → (get_or xs j 0 ≡ v → j < length xs → ⊥) → get_or (only number v xs) j 0 ≡ 0
  only_zero xs j never = go (get_or (only number v xs) j 0) refl
    where
      go : (n : ℕ) → get_or (only number v xs) j 0 ≡ n → get_or (only number v xs) j 0 ≡ 0
      go zero e = e
      go (suc m) e = let r = only-found xs j m e in absurd (never r.2 r.1)

  pub listed_numbered : (xs : List ℕ) (i : ℕ) → 0 < number → Numbered (listed number v xs i)
  listed_numbered xs i p = record { to = go; back = λ n k f. record { index = f.index; place = f.place; number = only_at xs f.index f.inside f.equal ∙ sym f.is; positive = omega (arith, f.is) } }
    where
      go : (n k : ℕ) → NumberAt (listed number v xs i) n k → Listed number v xs i n k
      go zero k a = absurd (omega (arith, a.positive))
      go (suc m) k a = let r = only-found xs a.index m a.number in record { is = r.0; index = a.index; inside = r.1; equal = r.2; place = a.place }

-- ---- nodes

left-part : (xs ys : List ℕ) (i : ℕ) → i < length xs → get_or (xs ++ ys) i 0 ≡ get_or xs i 0
left-part xs ys i h = get_or-append xs ys 0 i h

right_part : (xs ys : List ℕ) (i : ℕ) → length xs ≤ i → get_or (xs ++ ys) i 0 ≡ get_or ys (i - length xs) 0
right_part xs ys i h = let e : i ≡ length xs + (i - length xs) = omega arith in ap (λ (j : ℕ). get_or (xs ++ ys) j 0) e ∙ get_or-append-add xs ys (i - length xs) 0

pub node-inside : (ts : Trees) (i : ℕ) (h : Head) (us : Trees) → NodeAt ts i h us → i < length (records_all ts)
unfolding records
node-inside ts i h us (first e) = omega arith
node-inside ts i h us (below {vs = vs} {ts = rs} {j = j} e a) = omega (arith, node-inside vs j h us a, length-append (records_all vs) (records_all rs))
node-inside ts i h us (later {t = t} {ts = rs} {j = j} e a) = omega (arith, node-inside rs j h us a, length-append (records t) (records_all rs))

module _ (f : Head → Trees → ℕ) where
  mutual
    unfolding marks records

    pub marks-size : (t : Tree) → length (marks f t) ≡ length (records t)
    marks-size (node h ts) = ap suc (marks-sizes ts)

    pub marks-sizes : (ts : Trees) → length (marks_all f ts) ≡ length (records_all ts)
    marks-sizes ∅ = refl
    marks-sizes (t ▸ ts) = length-append (marks f t) (marks_all f ts) ∙ ap₂ ◌+◌ (marks-size t) (marks-sizes ts) ∙ sym (length-append (records t) (records_all ts))

  -- the mark at a node's record
  pub marks-at : (ts : Trees) (i : ℕ) (h : Head) (us : Trees) → NodeAt ts i h us → get_or (marks_all f ts) i 0 ≡ f h us
  unfolding marks
  marks-at ts i h us (first e) = rw e
  marks-at ts i h us (below {vs = vs} {ts = rs} {j = j} e a) = rw e (left-part (marks_all f vs) (marks_all f rs) j (omega (arith, node-inside vs j h us a, marks-sizes vs)) ∙ marks-at vs j h us a)
  marks-at ts i h us (later {t = t} {ts = rs} {j = j} e a) =
      let q : i ≡ length (marks f t) + j = omega (arith, marks-size t) in
      rw q (get_or-append-add (marks f t) (marks_all f rs) j 0 ∙ marks-at rs j h us a)

  -- the node at a record that has a mark
  record Marked (ts : Trees) (i n : ℕ) : Type 0 where
    head_of : Head
    children_of : Trees
    at : NodeAt ts i head_of children_of
    is : f head_of children_of ≡ n

  marked_in : (h : Head) (us ts : Trees) (n i : ℕ) → get_or (marks_all f (node h us ▸ ts)) i 0 ≡ suc n
      → ((j : ℕ) → get_or (marks_all f us) j 0 ≡ suc n → Marked us j (suc n)) → ((j : ℕ) → get_or (marks_all f ts) j 0 ≡ suc n → Marked ts j (suc n)) → Marked (node h us ▸ ts) i (suc n)
  unfolding marks records
  marked_in h us ts n zero e a b = record { head_of = h; children_of = us; at = first refl; is = e }
  marked_in h us ts n (suc i) e a b = go (dec_lt i (length (marks_all f us)))
    where
      go : Dec (i < length (marks_all f us)) → Marked (node h us ▸ ts) (suc i) (suc n)
      go (yes l) = let r = a i (sym (left-part (marks_all f us) (marks_all f ts) i l) ∙ e) in record { head_of = r.head_of; children_of = r.children_of; at = below refl r.at; is = r.is }
      go (no l) =
          let r = b (i - length (marks_all f us)) (sym (right_part (marks_all f us) (marks_all f ts) i (omega arith)) ∙ e) in
          record { head_of = r.head_of; children_of = r.children_of; at = later {t = node h us} {i = suc i} {j = i - length (marks_all f us)} (omega (arith, marks-sizes us)) r.at; is = r.is }

  mutual
    unfolding marks

    marked : (ts : Trees) (i n : ℕ) → get_or (marks_all f ts) i 0 ≡ suc n → Marked ts i (suc n)
    marked ∅ i n e = absurd (omega arith)
    marked (t ▸ ts) i n e = tree-marked t ts i n e (λ j d. marked ts j n d)

    tree-marked : (t : Tree) (ts : Trees) (i n : ℕ) → get_or (marks_all f (t ▸ ts)) i 0 ≡ suc n → ((j : ℕ) → get_or (marks_all f ts) j 0 ≡ suc n → Marked ts j (suc n)) → Marked (t ▸ ts) i (suc n)
    tree-marked (node h us) ts i n e b = marked_in h us ts n i e (λ j d. marked us j n d) b

  module _ (F : Head → Trees → ℕ → Type 0) (to : (h : Head) (us : Trees) (n : ℕ) → f h us ≡ suc n → F h us (suc n)) (back : (h : Head) (us : Trees) (n : ℕ) → F h us n → (f h us ≡ n) × (0 < n)) where
    pub within_numbered : (ts : Trees) (i : ℕ) → Numbered (within F f ts i)
    within_numbered ts i = record { to = go; back = λ n k w. record { index = w.index; place = w.place; number = marks-at ts w.index w.head w.children w.node_at ∙ (back w.head w.children n w.wrong).0; positive = (back w.head w.children n w.wrong).1 } }
      where
        go : (n k : ℕ) → NumberAt (within F f ts i) n k → Within F ts i n k
        go zero k a = absurd (omega (arith, a.positive))
        go (suc m) k a =
            let r = marked ts a.index m a.number in
            record { index = a.index; head = r.head_of; children = r.children_of; node_at = r.at; wrong = to r.head_of r.children_of m r.is; place = a.place }
