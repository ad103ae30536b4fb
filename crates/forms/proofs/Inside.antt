-- What is known of the records inside a list that is of its kind: for code that reads such a list by its indices. Assumes nothing.
use mathlib.Core.Path.{◌≡◌, refl, ap, sym, ◌∙◌}
use mathlib.Core.Bool.{Bool, true, false, false≢true}
use mathlib.Core.List.{List, [], ◌∷◌, ◌++◌}
use Prim.Native.Nat.{ℕ, zero, suc, ◌+◌, ◌-◌, ◌*◌, ◌/◌, ◌%◌, ◌≤◌, ◌<◌}
use native.Mathlib.Numerals.{add-one}
use native.Mathlib.Decide.{dec_lt}
use native.Mathlib.Omega.{arith}
use lib.Dec.{eqb}
use borrow.Author.Tests.{eqb-true, eqb-false, leb-true}
use Rattle.trees.specs.declared.Rec.{Rec}
use Rattle.trees.specs.Choice.{pick}
use Rattle.trees.specs.declared.Head.{Head}
use Rattle.trees.specs.Tree.{Trees, node, count, record_of}
use Rattle.records.specs.Slots.{slots, rec_at, recs}
use Rattle.forms.specs.Kinds.{Columns}
use Rattle.forms.specs.Tests.{◌and◌}
use Rattle.forms.specs.Kinds.{Entry, none, name, range, tuple_field, rows, find, row_for}
use Rattle.forms.specs.Forms.{placed, one, run, singles, leading, sorts_of, children, words_ok, stands, good, next, rest, of_sort, of_sorts, fits}
use Rattle.forms.specs.Lists.{left}
use Rattle.forms.proofs.TestLaws.{both}
use Rattle.forms.proofs.ListLaws.{left-more, left-none, left-all}

-- a node of its sort, taken apart
pub of_node : (t s : ℕ) (h : Head) (ts : Trees) → of_sort t s (node h ts) ≡ true → (good t s (record_of h (count ts)) ≡ true) × (of_sorts t none (children (record_of h (count ts))) ts ≡ true)
unfolding of_sort
of_node t s h ts e = both e

-- from every index on, the rest of a list that fits fits what is then expected
pub fits_from : (t b : ℕ) (list : List ℕ) (i : ℕ) (ss : List ℕ) → fits t b ss (left list 0) ≡ true → i ≤ slots list → (ss' : List ℕ) × (fits t b ss' (left list i) ≡ true)
unfolding fits
fits_from t b list zero ss e h = (ss, e)
fits_from t b list (suc i) ss e h =
    let w = fits_from t b list i ss e (omega arith) in
    let l : i < slots list = omega arith in
    let f : good t (next b w.0) (rec_at list i) and fits t b (children (rec_at list i) ++ rest w.0) (left list (i + 1)) ≡ true = rw (left-more list i l) at w.1 in
    (children (rec_at list i) ++ rest w.0, rw (add-one i) at (both f).1)

-- every record is good where some sort is expected
pub good-at : (t b : ℕ) (ss : List ℕ) (list : List ℕ) (i : ℕ) → fits t b ss (recs list) ≡ true → i < slots list → (s : ℕ) × (good t s (rec_at list i) ≡ true)
unfolding fits
good-at t b ss list i e h =
    let w = fits_from t b list i ss (rw (left-all list) e) (omega arith) in
    (next b w.0, (both (rw (left-more list i h) at w.1)).0)

-- its sort is the one expected, where that is no TupleField
pub good_sort : (t s : ℕ) (r : Rec) → s < 10 → good t s r ≡ true → (row_for r.kind r.flags).sort ≡ s
unfolding stands placed
good_sort t s r h e = go (eqb (row_for r.kind r.flags).sort tuple_field) (eqb-true _ _ (both (both e).1).0)
  where
    go : (x : Bool) → s ≡ pick x (tuple_field + 256 * r.word1) (row_for r.kind r.flags).sort → (row_for r.kind r.flags).sort ≡ s
    go true q = absurd (omega arith)
    go false q = sym q

-- ---- names

only_kind : ℕ → ℕ → List Entry → Bool
only_kind s k [] = true
only_kind s k (e ∷ es) = pick (eqb e.row.sort s) (eqb e.kind k) true and only_kind s k es

only : (s k : ℕ) (f v : ℕ) (es : List Entry) → only_kind s k es ≡ true → (s ≡ 0 → ⊥) → (find f v es).sort ≡ s → f ≡ k
unfolding only_kind find
only s k f v [] o n e = absurd (n (sym e))
only s k f v (x ∷ es) o n e =
    go (eqb x.kind f and eqb x.by_flags v) refl (both o).0 e (only s k f v es (both o).1 n)
  where
    here : (b : Bool) → eqb x.row.sort s ≡ b → pick b (eqb x.kind k) true ≡ true → x.row.sort ≡ s → x.kind ≡ k
    here true p q d = eqb-true x.kind k q
    here false p q d = absurd (eqb-false x.row.sort s p d)

    go : (b : Bool) → eqb x.kind f and eqb x.by_flags v ≡ b → pick (eqb x.row.sort s) (eqb x.kind k) true ≡ true →
        (pick b x.row (find f v es)).sort ≡ s → ((find f v es).sort ≡ s → f ≡ k) → f ≡ k
    go true p q d i = sym (eqb-true x.kind f (both p).0) ∙ here (eqb x.row.sort s) refl q d
    go false p q d i = i d

names_are_idents : only_kind name 24 rows ≡ true
unfolding only_kind rows ◌and◌
names_are_idents = refl

-- where a name is expected stands an Ident
pub name_is_ident : (t : ℕ) (r : Rec) → good t name r ≡ true → r.kind ≡ 24
unfolding row_for
name_is_ident t r e = only name 24 r.kind (pick (eqb r.kind 20) r.flags 0) rows names_are_idents (λ q. omega arith) (good_sort t name r (omega arith) e)

ident_words : (f : ℕ) → (row_for 24 f).words ≡ range
unfolding row_for find rows ◌and◌
ident_words f = refl

range_inside : (t a b : ℕ) → words_ok t range a b ≡ true → a / 4294967296 + a % 4294967296 ≤ t
unfolding words_ok
range_inside t a b e = leb-true _ _ (both e).1

-- an Ident's range lies in the text
pub ident-inside : (t s : ℕ) (r : Rec) → good t s r ≡ true → r.kind ≡ 24 → r.word1 / 4294967296 + r.word1 % 4294967296 ≤ t
unfolding stands
ident-inside t s r e k =
    let q : (row_for r.kind r.flags).words ≡ range = ap (λ (x : ℕ). (row_for x r.flags).words) k ∙ ident_words r.flags in
    range_inside t r.word1 r.word2 (rw q at (both (both (both (both (both e).1).1).1).1).0)

-- ---- a record whose first child is a name: it is the next record

pub record NamedAt (t : ℕ) (list : List ℕ) (i : ℕ) : Type 0 where
  pub more : i + 1 < slots list
  pub ident : (rec_at list (i + 1)).kind ≡ 24
  pub inside : (rec_at list (i + 1)).word1 / 4294967296 + (rec_at list (i + 1)).word1 % 4294967296 ≤ t

name-first : (w : Columns) (c : ℕ) → w.first ≡ name → (l : List ℕ) × (sorts_of w c ≡ name ∷ l)
unfolding sorts_of leading one
name-first w c e = (one w.second ++ one w.third ++ (run w.any 0 (c - singles w) ++ one w.last), rw e)

next-is : (t b : ℕ) (list l : List ℕ) (i : ℕ) → fits t b (name ∷ l) (left list (i + 1)) ≡ true → Dec (i + 1 < slots list) → NamedAt t list i
unfolding fits
next-is t b list l i e (yes h) =
    let g : good t name (rec_at list (i + 1)) ≡ true = (both (rw (left-more list (i + 1) h) at e)).0 in
    let k : (rec_at list (i + 1)).kind ≡ 24 = name_is_ident t (rec_at list (i + 1)) g in
    record { more = h; ident = k; inside = ident-inside t name (rec_at list (i + 1)) g k }
next-is t b list l i e (no h) =
    let k : slots list ≤ i + 1 = omega arith in
    absurd (false≢true (rw (left-none list (i + 1) k) at e))

pub name-after : (t b : ℕ) (ss : List ℕ) (list : List ℕ) (i : ℕ) → fits t b ss (recs list) ≡ true → i < slots list → (row_for (rec_at list i).kind (rec_at list i).flags).first ≡ name → NamedAt t list i
unfolding fits
name-after t b ss list i e h n =
    let w = fits_from t b list i ss (rw (left-all list) e) (omega arith) in
    let f : fits t b (children (rec_at list i) ++ rest w.0) (left list (i + 1)) ≡ true = (both (rw (left-more list i h) at w.1)).1 in
    let q = name-first (row_for (rec_at list i).kind (rec_at list i).flags) (rec_at list i).count n in
    next-is t b list (q.0 ++ rest w.0) i (rw q.1 at f) (dec_lt (i + 1) (slots list))
