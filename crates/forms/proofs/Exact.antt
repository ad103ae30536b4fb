-- A list fits exactly if it is the records of trees of its kind, and there is only one row of such trees. Assumes nothing.
use mathlib.Core.Path.{◌≡◌, refl, ap, sym, ◌∙◌}
use mathlib.Core.Logic.{◌↔◌}
use mathlib.Core.Bool.{Bool, true, false, false≢true}
use mathlib.Core.List.{List, [], ◌∷◌, ◌++◌, append_assoc}
use Prim.Native.Nat.{ℕ, zero, suc, ◌≤◌, ◌<◌}
use native.Mathlib.Omega.{arith}
use lib.ListN.{length, length-append}
use lib.Dec.{eqb}
use borrow.Author.Tests.{leb-true, ltb-true}
use Rattle.trees.specs.declared.Rec.{Rec}
use Rattle.trees.specs.Choice.{pick}
use Rattle.trees.specs.Tree.{Tree, Trees, node, ∅, ◌▸◌, ◌⧺◌, count, firsts, others, records, records_all, trees_of, record_of}
use Rattle.trees.proofs.Laws.{records_all_⧺, records_all-one, records_all_injective, records_injective}
use Rattle.forms.specs.Kinds.{Columns}
use Rattle.forms.specs.Kinds.{none, row_for}
use Rattle.forms.specs.Forms.{one, run, some, singles, leading, sorts_of, children, stands, good, is_nil, next, rest, of_sort, of_sorts, OfKind, AllOfKind, fits, is_one, is_many}
use Rattle.forms.proofs.TestLaws.{both, true_and, and_false}

-- ---- a row's children are as many as are counted

pub length-one : (s : ℕ) → length (one s) ≡ some s
unfolding one some
length-one s = go (eqb s none)
  where
    go : (b : Bool) → length (pick b [] (s ∷ [])) ≡ pick b 0 1
    go true = refl
    go false = refl

pub length_run : (s p n : ℕ) → length (run s p n) ≡ n
unfolding run
length_run s p zero = refl
length_run s p (suc n) = ap suc (length_run s (suc p) n)

pub length-sorts_of : (w : Columns) (c : ℕ) → singles w ≤ c → length (sorts_of w c) ≡ c
unfolding sorts_of leading singles
length-sorts_of w c h =
    simp (length-append, length-one, length_run) (omega arith)

-- what a record that may stand says
pub enough : (t s : ℕ) (w : Columns) (r : Rec) → stands t s w r ≡ true → singles w ≤ r.count
unfolding stands
enough t s w r e = leb-true (singles w) r.count (both (both (both (both (both e).1).1).1).1).1

pub length-children : (t s : ℕ) (r : Rec) → good t s r ≡ true → length (children r) ≡ r.count
length-children t s r e = length-sorts_of (row_for r.kind r.flags) r.count (enough t s (row_for r.kind r.flags) r e)

-- nothing stands where no sort is expected
good_none : (t : ℕ) (r : Rec) → good t none r ≡ true → ⊥
unfolding stands
good_none t r e = let h : 0 < 0 = ltb-true _ _ (both e).0 in omega arith

-- ---- trees of their sorts are recognized by their records

mutual
  unfolding fits of_sort records

  fits-tree : (x : Tree) (t b s : ℕ) (ss : List ℕ) (rs : List Rec) → of_sort t s x ≡ true → fits t b (s ∷ ss) (records x ++ rs) ≡ fits t b ss rs
  fits-tree (node h ts) t b s ss rs e =
      let p = both e in
      rw (p.0, true_and) (fits-trees ts t b (children (record_of h (count ts))) ss rs p.1)

  fits-trees : (xs : Trees) (t b : ℕ) (ss ss' : List ℕ) (rs : List Rec) → of_sorts t none ss xs ≡ true → fits t b (ss ++ ss') (records_all xs ++ rs) ≡ fits t b ss' rs
  fits-trees ∅ t b [] ss' rs e = refl
  fits-trees ∅ t b (s ∷ ss) ss' rs e = absurd (false≢true e)
  fits-trees (node h cs ▸ xs) t b [] ss' rs e = absurd (good_none t _ (both (both e).0).0)
  fits-trees (x ▸ xs) t b (s ∷ ss) ss' rs e =
      let p = both e in
      rw (append_assoc (records x) (records_all xs) rs) (fits-tree x t b s (ss ++ ss') (records_all xs ++ rs) p.0 ∙ fits-trees xs t b ss ss' rs p.1)

pub complete : (xs : Trees) (t b : ℕ) (ss : List ℕ) → of_sorts t b ss xs ≡ true → fits t b ss (records_all xs) ≡ true
unfolding fits of_sort records
complete ∅ t b ss e = e
complete (node h cs ▸ xs) t b ss e =
    let p = both e in
    let q = both p.0 in
    rw (q.0, true_and) (fits-trees cs t b (children (record_of h (count cs))) (rest ss) (records_all xs) q.1 ∙ complete xs t b (rest ss) p.1)

-- ---- what is recognized is the records of the trees that it reads as, and these are of the sorts

split_row : (n : ℕ) (xs : Trees) → firsts n xs ⧺ others n xs ≡ xs
unfolding firsts others ◌⧺◌
split_row zero xs = refl
split_row (suc n) ∅ = refl
split_row (suc n) (x ▸ xs) = ap (x ▸◌) (split_row n xs)

record Split (t b : ℕ) (ss ss' : List ℕ) (xs : Trees) : Type 0 where
  front : of_sorts t none ss (firsts (length ss) xs) ≡ true
  back : of_sorts t b ss' (others (length ss) xs) ≡ true
  many : count (firsts (length ss) xs) ≡ length ss

split : (t b : ℕ) (ss ss' : List ℕ) (xs : Trees) → of_sorts t b (ss ++ ss') xs ≡ true → Split t b ss ss' xs
unfolding of_sort firsts others count
split t b [] ss' xs e = record { front = refl; back = e; many = refl }
split t b (s ∷ ss) ss' ∅ e = absurd (false≢true e)
split t b (s ∷ ss) ss' (x ▸ xs) e =
    let p = both e in
    let r = split t b ss ss' xs p.1 in
    record { front = rw (p.0, true_and) r.front; back = r.back; many = ap suc r.many }

pub sound : (t b : ℕ) (ss : List ℕ) (rs : List Rec) → fits t b ss rs ≡ true → (of_sorts t b ss (trees_of rs) ≡ true) × (records_all (trees_of rs) ≡ rs)
unfolding fits of_sort trees_of records
sound t b [] [] e = (refl, refl)
sound t b (s ∷ ss) [] e = absurd (false≢true e)
sound t b ss (r ∷ rs) e =
    let p = both e in
    let i = sound t b (children r ++ rest ss) rs p.1 in
    let c : length (children r) ≡ r.count = length-children t (next b ss) r p.0 in
    let w = split t b (children r) (rest ss) (trees_of rs) i.0 in
    let m : count (firsts r.count (trees_of rs)) ≡ r.count = rw c at w.many in (
      rw (m, p.0, true_and, rw c at w.front, true_and) (rw c at w.back),
      rw m (ap (r ∷◌) (sym (records_all_⧺ (firsts r.count (trees_of rs)) (others r.count (trees_of rs))) ∙ ap records_all (split_row r.count (trees_of rs)) ∙ i.1)),
    )

-- ---- the theorem, with b and ss free, and for one tree and for any number

pub exact : (t b : ℕ) (ss : List ℕ) (rs : List Rec) → fits t b ss rs ≡ true ↔ ((xs : Trees) × (of_sorts t b ss xs ≡ true) × (records_all xs ≡ rs))
exact t b ss rs = (
  λ e. let w = sound t b ss rs e in (trees_of rs, w.0, w.1),
  λ w. ap (fits t b ss) (sym w.2) ∙ complete w.0 t b ss w.1,
)

pub many_exact : (t s : ℕ) (rs : List Rec) → is_many t s rs ≡ true ↔ ((xs : Trees) × AllOfKind t s xs × (records_all xs ≡ rs))
many_exact t s rs = exact t s [] rs

single : (t s : ℕ) (xs : Trees) (rs : List Rec) → of_sorts t none (s ∷ []) xs ≡ true → records_all xs ≡ rs → (x : Tree) × OfKind t s x × (records x ≡ rs)
unfolding of_sort
single t s ∅ rs e f = absurd (false≢true e)
single t s (x ▸ ∅) rs e f = (x, (both e).0, sym (records_all-one x) ∙ f)
single t s (x ▸ (node h cs ▸ ys)) rs e f = absurd (good_none t _ (both (both (both e).1).0).0)

single-row : (t s : ℕ) (x : Tree) → OfKind t s x → of_sorts t none (s ∷ []) (x ▸ ∅) ≡ true
unfolding of_sort
single-row t s x e = rw (e, true_and)

pub one_exact : (t s : ℕ) (rs : List Rec) → is_one t s rs ≡ true ↔ ((x : Tree) × OfKind t s x × (records x ≡ rs))
one_exact t s rs = (
  λ e. let w = sound t none (s ∷ []) rs e in single t s (trees_of rs) rs w.0 w.1,
  λ w. ap (fits t none (s ∷ [])) (sym w.2 ∙ sym (records_all-one w.0)) ∙ complete (w.0 ▸ ∅) t none (s ∷ []) (single-row t s w.0 w.1),
)

-- the trees are the only ones
pub many_unique : (rs : List Rec) (xs ys : Trees) → records_all xs ≡ rs → records_all ys ≡ rs → xs ≡ ys
many_unique rs xs ys e f = records_all_injective xs ys (e ∙ sym f)

pub one_unique : (rs : List Rec) (x y : Tree) → records x ≡ rs → records y ≡ rs → x ≡ y
one_unique rs x y e f = records_injective x y (e ∙ sym f)

-- ---- more sorts than records

not_nil : (ss : List ℕ) → 0 < length ss → is_nil ss ≡ false
not_nil [] h = absurd (omega arith)
not_nil (s ∷ ss) h = refl

length_rest : (ss : List ℕ) → length ss ≤ suc (length (rest ss))
length_rest [] = omega arith
length_rest (s ∷ ss) = omega arith

pub fits-short : (t b : ℕ) (ss : List ℕ) (rs : List Rec) → length rs < length ss → fits t b ss rs ≡ false
unfolding fits
fits-short t b ss [] h = not_nil ss h
fits-short t b ss (r ∷ rs) h =
    let i : fits t b (children r ++ rest ss) rs ≡ false =
    fits-short t b (children r ++ rest ss) rs (simp length-append (omega (arith, length_rest ss))) in
    rw i (and_false _)
