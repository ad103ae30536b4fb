-- A list that is of its kind: each record finds its children, as many as its kind has, and names are leaves. Assumes nothing.
use mathlib.Core.Path.{◌≡◌, refl, ap, ◌∙◌}
use mathlib.Core.Bool.{true, false≢true}
use mathlib.Core.List.{List, [], ◌∷◌, ◌++◌, append_assoc}
use Prim.Native.Nat.{ℕ, zero, suc, ◌+◌, ◌-◌, ◌*◌, ◌<◌, ◌≤◌}
use native.Mathlib.Omega.{arith}
use lib.Dec.{eqb}
use lib.ListN.{length, length-append}
use borrow.Author.Tests.{eqb-true, ltb-true}
use Rattle.trees.specs.Choice.{pick}
use Rattle.trees.specs.declared.Rec.{Rec}
use Rattle.trees.specs.Tree.{Trees, ∅, ◌▸◌, count, trees_of}
use Rattle.forms.specs.Tests.{◌and◌}
use Rattle.forms.specs.Kinds.{Columns, name, pattern, rows, find, row_for}
use Rattle.forms.specs.Forms.{placed, one, run, some, singles, leading, sorts_of, children, stands, good, is_nil, next, rest, of_sort, of_sorts, fits}
use Rattle.forms.proofs.TestLaws.{both}
use Rattle.forms.proofs.Exact.{enough, length-children, sound}
use Rattle.forms.proofs.Inside.{name_is_ident}
use Rattle.expansion.specs.Nodes.{is_ident, is_extractor, is_var, is_bind, is_term, is_wildcard, is_macro_arg}
use Rattle.expansion.specs.Flat.{LeafNext, IdentNext, Placed, All}
use Rattle.grounds.specs.Leaves.{Leaves, ExtractorPlaced}

-- ---- every sort that is expected is one

Positive : List ℕ → Type 0
Positive [] = Unit {0}
Positive (s ∷ ss) = (0 < s) × Positive ss

positive_append : (ss ss' : List ℕ) → Positive (ss ++ ss') → Positive ss × Positive ss'
unfolding Positive
positive_append [] ss' p = (tt, p)
positive_append (s ∷ ss) ss' p = let r = positive_append ss ss' p.1 in ((p.0, r.0), r.1)

good_positive : (t s : ℕ) (r : Rec) → good t s r ≡ true → 0 < s
unfolding stands
good_positive t s r e = ltb-true _ _ (both e).0

nil_positive : (ss : List ℕ) → is_nil ss ≡ true → Positive ss
unfolding Positive
nil_positive [] e = tt
nil_positive (s ∷ ss) e = absurd (false≢true e)

rest_positive : (b : ℕ) (ss : List ℕ) → 0 < next b ss → Positive (rest ss) → Positive ss
unfolding Positive
rest_positive b [] h p = tt
rest_positive b (s ∷ ss) h p = (h, p)

fits_positive : (rs : List Rec) (t b : ℕ) (ss : List ℕ) → fits t b ss rs ≡ true → Positive ss
unfolding fits
fits_positive [] t b ss e = nil_positive ss e
fits_positive (r ∷ rs) t b ss e =
    let p = both e in
    rest_positive b ss (good_positive t (next b ss) r p.0) (positive_append (children r) (rest ss) (fits_positive rs t b (children r ++ rest ss) p.1)).1

run_none : (s n : ℕ) → s ≡ 0 → Positive (run s 0 n) → n ≡ 0
unfolding Positive run placed
run_none s zero e p = refl
run_none s (suc n) e p = absurd (zero-placed p.0)
  where
    zero-placed : 0 < pick (eqb s 10) (10 + 256 * 0) s → ⊥
    zero-placed h = let q : 0 < pick (eqb 0 10) (10 + 256 * 0) 0 = rw e at h in omega arith

-- a row with no run has its single children
row_count : (w : Columns) (c : ℕ) → w.any ≡ 0 → singles w ≤ c → Positive (sorts_of w c) → c ≡ singles w
unfolding sorts_of
row_count w c n h p =
    let q = positive_append (run w.any 0 (c - singles w)) (one w.last) (positive_append (leading w) (run w.any 0 (c - singles w) ++ one w.last) p).1 in
    let z : c - singles w ≡ 0 = run_none w.any (c - singles w) n q.0 in
    omega arith

module _ (t s b : ℕ) (ss : List ℕ) (r : Rec) (rs : List Rec) (g : good t s r ≡ true) (f : fits t b (children r ++ ss) rs ≡ true) where
  abbrev row : Columns
  row = row_for r.kind r.flags

  count-row : row.any ≡ 0 → r.count ≡ singles row
  count-row n = row_count row r.count n (enough t s row r g) (positive_append (children r) ss (fits_positive rs t b (children r ++ ss) f)).0

  enough_row : singles row ≤ r.count
  enough_row = enough t s row r g

  at_least : (xs : Trees) (ss' : List ℕ) → of_sorts t b ss' xs ≡ true → length ss' ≤ count xs
  unfolding of_sort count
  at_least ∅ [] e = omega arith
  at_least ∅ (s ∷ ss') e = absurd (false≢true e)
  at_least (x ▸ xs) [] e = omega arith
  at_least (x ▸ xs) (s ∷ ss') e = omega (arith, at_least xs ss' (both e).1)

  whole : r.count ≤ count (trees_of rs)
  whole =
      omega (arith, at_least (trees_of rs) (children r ++ ss) (sound t b (children r ++ ss) rs f).0, length-append (children r) ss, length-children t s r g)

-- ---- rows by kind

ident_any : (f : ℕ) → (row_for 24 f).any ≡ 0
unfolding row_for find rows ◌and◌
ident_any f = refl

ident-singles : (f : ℕ) → singles (row_for 24 f) ≡ 0
unfolding row_for find rows ◌and◌ singles some
ident-singles f = refl

ident-children : (f : ℕ) → sorts_of (row_for 24 f) 0 ≡ []
unfolding row_for find rows ◌and◌ sorts_of singles some leading one run
ident-children f = refl

-- where a name is expected stands a leaf
name-leaf : (t b : ℕ) (ss : List ℕ) (i : Rec) (rs : List Rec) → fits t b (name ∷ ss) (i ∷ rs) ≡ true → (i.kind ≡ 24) × (i.count ≡ 0) × (fits t b ss rs ≡ true)
unfolding fits
name-leaf t b ss i rs e =
    let p = both e in
    let k : i.kind ≡ 24 = name_is_ident t i p.0 in
    let n : (row_for i.kind i.flags).any ≡ 0 = ap (λ (x : ℕ). (row_for x i.flags).any) k ∙ ident_any i.flags in
    let z : i.count ≡ 0 = count-row t name b ss i rs p.0 p.1 n ∙ ap (λ (x : ℕ). singles (row_for x i.flags)) k ∙ ident-singles i.flags in
    let c : children i ≡ [] = ap (λ (x : ℕ). sorts_of (row_for x i.flags) i.count) k ∙ ap (sorts_of (row_for 24 i.flags)) z ∙ ident-children i.flags in
    (k, z, rw c at p.1)

-- a row whose first child is a name
name-first : (w : Columns) (c : ℕ) → w.first ≡ name → (l : List ℕ) × (sorts_of w c ≡ name ∷ l)
unfolding sorts_of leading one
name-first w c e = (one w.second ++ one w.third ++ (run w.any 0 (c - singles w) ++ one w.last), rw e)

pub record Head (k f : ℕ) (first any n : ℕ) : Type 0 where
  pub first-is : (row_for k f).first ≡ first
  pub any_is : (row_for k f).any ≡ any
  pub singles_are : singles (row_for k f) ≡ n

var-row : (f : ℕ) → Head 30 f name 0 1
unfolding row_for find rows ◌and◌ singles some
var-row f = record { first-is = refl; any_is = refl; singles_are = refl }

bind-row : (f : ℕ) → Head 31 f name 0 2
unfolding row_for find rows ◌and◌ singles some
bind-row f = record { first-is = refl; any_is = refl; singles_are = refl }

wildcard-row : (f : ℕ) → Head 36 f 0 0 0
unfolding row_for find rows ◌and◌ singles some
wildcard-row f = record { first-is = refl; any_is = refl; singles_are = refl }

arg_row : (f : ℕ) → Head 38 f 0 0 0
unfolding row_for find rows ◌and◌ singles some
arg_row f = record { first-is = refl; any_is = refl; singles_are = refl }

term-row : (f : ℕ) → Head 35 f name pattern 1
unfolding row_for find rows ◌and◌ singles some
term-row f = record { first-is = refl; any_is = refl; singles_are = refl }

extractor-row : (f : ℕ) → Head 19 f name name 2
unfolding row_for find rows ◌and◌ singles some
extractor-row f = record { first-is = refl; any_is = refl; singles_are = refl }

extractor_sorts : (f c : ℕ) → sorts_of (row_for 19 f) c ≡ name ∷ (run name 0 (c - 2) ++ (pattern ∷ []))
unfolding row_for find rows ◌and◌ sorts_of singles some leading one
extractor_sorts f c = refl

run-leaves : (n p t b : ℕ) (ss : List ℕ) (rs : List Rec) → fits t b (run name p n ++ ss) rs ≡ true → Leaves n rs
unfolding run placed fits
run-leaves zero p t b ss rs e = tt
run-leaves (suc n) p t b ss [] e = absurd (short e)
  where
    short : fits t b (name ∷ (run name (suc p) n ++ ss)) [] ≡ true → ⊥
    short e = false≢true e
run-leaves (suc n) p t b ss (i ∷ rs) e =
    let l = name-leaf t b (run name (suc p) n ++ ss) i rs e in
    (l.1, run-leaves n (suc p) t b ss rs l.2)

module _ (t s b : ℕ) (ss : List ℕ) (r : Rec) (rs : List Rec) (g : good t s r ≡ true) (f : fits t b (children r ++ ss) rs ≡ true) where
  sized : (k first n : ℕ) → r.kind ≡ k → Head k r.flags first 0 n → r.count ≡ n
  sized k first n e h =
      count-row t s b ss r rs g f (ap (λ (x : ℕ). (row_for x r.flags).any) e ∙ h.any_is)
      ∙ ap (λ (x : ℕ). singles (row_for x r.flags)) e ∙ h.singles_are

  least : (k first any n : ℕ) → r.kind ≡ k → Head k r.flags first any n → n ≤ r.count
  least k first any n e h = omega (arith, enough_row t s b ss r rs g f, ap (λ (x : ℕ). singles (row_for x r.flags)) e, h.singles_are)

  named-next : (k any n : ℕ) → r.kind ≡ k → Head k r.flags name any n → LeafNext rs × IdentNext rs
  unfolding fits is_ident
  named-next k any n e h =
      let q = name-first (row_for r.kind r.flags) r.count (ap (λ (x : ℕ). (row_for x r.flags).first) e ∙ h.first-is) in
      go rs (q.0 ++ ss) (rw q.1 at f)
    where
      go : (rs : List Rec) (l : List ℕ) → fits t b (name ∷ l) rs ≡ true → LeafNext rs × IdentNext rs
      go [] l e = absurd (false≢true e)
      go (i ∷ rs) l e = let x = name-leaf t b l i rs e in (x.1, rw x.0)

  placed-here : Placed r rs
  unfolding is_var is_bind is_wildcard is_term
  placed-here =
      record {
        whole = whole t s b ss r rs g f;
        var = λ e. let k = eqb-true r.kind 30 e in (sized 30 name 1 k (var-row r.flags), (named-next 30 0 1 k (var-row r.flags)).0);
        bind = λ e. let k = eqb-true r.kind 31 e in (sized 31 name 2 k (bind-row r.flags), (named-next 31 0 2 k (bind-row r.flags)).0);
        wildcard = λ e. let k = eqb-true r.kind 36 e in sized 36 0 0 k (wildcard-row r.flags);
        term = λ e. let k = eqb-true r.kind 35 e in (omega (arith, least 35 name pattern 1 k (term-row r.flags)), (named-next 35 pattern 1 k (term-row r.flags)).1);
      }

  arg_here : is_macro_arg r.kind ≡ true → r.count ≡ 0
  unfolding is_macro_arg
  arg_here e = sized 38 0 0 (eqb-true r.kind 38 e) (arg_row r.flags)

  extractor-here : ExtractorPlaced r rs
  unfolding is_extractor fits
  extractor-here =
      record {
        two = λ e. least 19 name name 2 (eqb-true r.kind 19 e) (extractor-row r.flags);
        names = λ e.
            let k = eqb-true r.kind 19 e in
            let c : children r ≡ name ∷ (run name 0 (r.count - 2) ++ (pattern ∷ [])) = ap (λ (x : ℕ). sorts_of (row_for x r.flags) r.count) k ∙ extractor_sorts r.flags r.count in
            let two : 2 ≤ r.count = least 19 name name 2 k (extractor-row r.flags) in
            let n : r.count - 1 ≡ suc (r.count - 2) = omega arith in
            rw n (all rs (rw c at f));
      }
    where
      all : (rs : List Rec) → fits t b (name ∷ ((run name 0 (r.count - 2) ++ (pattern ∷ [])) ++ ss)) rs ≡ true → Leaves (suc (r.count - 2)) rs
      all [] e = absurd (false≢true e)
      all (i ∷ rs) e =
          let l = name-leaf t b ((run name 0 (r.count - 2) ++ (pattern ∷ [])) ++ ss) i rs e in
          (l.1, run-leaves (r.count - 2) 0 t b ((pattern ∷ []) ++ ss) rs (rw (append_assoc (run name 0 (r.count - 2)) (pattern ∷ []) ss) at l.2))

pub fits-placed : (rs : List Rec) (t b : ℕ) (ss : List ℕ) → fits t b ss rs ≡ true → All Placed rs
unfolding fits
fits-placed [] t b ss e = tt
fits-placed (r ∷ rs) t b ss e =
    let p = both e in
    (placed-here t (next b ss) b (rest ss) r rs p.0 p.1, fits-placed rs t b (children r ++ rest ss) p.1)

pub fits-extractors : (rs : List Rec) (t b : ℕ) (ss : List ℕ) → fits t b ss rs ≡ true → All ExtractorPlaced rs
unfolding fits
fits-extractors [] t b ss e = tt
fits-extractors (r ∷ rs) t b ss e =
    let p = both e in
    (extractor-here t (next b ss) b (rest ss) r rs p.0 p.1, fits-extractors rs t b (children r ++ rest ss) p.1)

pub fits-args : (rs : List Rec) (t b : ℕ) (ss : List ℕ) → fits t b ss rs ≡ true → All (λ r rs. is_macro_arg r.kind ≡ true → r.count ≡ 0) rs
unfolding fits
fits-args [] t b ss e = tt
fits-args (r ∷ rs) t b ss e =
    let p = both e in
    (arg_here t (next b ss) b (rest ss) r rs p.0 p.1, fits-args rs t b (children r ++ rest ss) p.1)

-- a list of names has leaves alone
pub fits-names : (rs : List Rec) (t : ℕ) → fits t name [] rs ≡ true → All (λ r rs. r.count ≡ 0) rs
unfolding fits
fits-names [] t e = tt
fits-names (r ∷ rs) t e = let l = name-leaf t name [] r rs e in (l.1, fits-names rs t l.2)
