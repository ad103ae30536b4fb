-- When trees, and lists of records, are of their kind (document 01: 'A lent list is of its kind when ..').
-- A TupleField's sort holds its place, so that only the record with that index may stand there.
use Rattle.std.specs.Prelude.{ℕ, zero, suc, ◌+◌, ◌-◌, ◌*◌, ◌/◌, ◌%◌, ◌≡◌, Bool, true, false, List, [], ◌∷◌, ◌++◌, eqb, ltb, leb}
use Rattle.trees.specs.declared.Rec.{Rec}
use Rattle.trees.specs.Choice.{pick}
use Rattle.trees.specs.Tree.{Tree, Trees, node, ∅, ◌▸◌, count, record_of}
use Rattle.forms.specs.Tests.{◌and◌}
use Rattle.forms.specs.Kinds.{Columns, none, tuple_field, index, integer, range, row_for}

-- the sort s at the place p among its parent's children
unfoldable pub placed : ℕ → ℕ → ℕ
placed s p = pick (eqb s tuple_field) (tuple_field + 256 * p) s

-- one child, or no such child
unfoldable pub one : ℕ → List ℕ
one s = pick (eqb s none) [] (s ∷ [])

-- n children of the sort s, from the place p on
unfoldable pub run : ℕ → ℕ → ℕ → List ℕ
run s p zero = []
run s p (suc n) = placed s p ∷ run s (suc p) n

unfoldable pub some : ℕ → ℕ
some s = pick (eqb s none) 0 1

-- how many single children a row has
unfoldable pub singles : Columns → ℕ
singles w = some w.first + some w.second + some w.third + some w.last

-- the single children that come first
unfoldable pub leading : Columns → List ℕ
leading w = one w.first ++ (one w.second ++ one w.third)

-- the sorts of c children, first to last
unfoldable pub sorts_of : Columns → ℕ → List ℕ
sorts_of w c = leading w ++ (run w.any 0 (c - singles w) ++ one w.last)

abbrev pub children : Rec → List ℕ
children r = sorts_of (row_for r.kind r.flags) r.count

unfoldable pub position_ok : ℕ → ℕ → Bool
position_ok p x = pick (eqb p 0) (eqb x 0) true

-- words 1 and 2 where the text has t bytes
unfoldable pub words_ok : ℕ → ℕ → ℕ → ℕ → Bool
words_ok t w a b =
    pick (eqb w integer) true
    (eqb b 0 and pick (eqb w index) true (pick (eqb w range) (leb (a / 4294967296 + a % 4294967296) t) (eqb a 0)))

-- whether a record with the row w may stand where the sort s is expected
unfoldable pub stands : ℕ → ℕ → Columns → Rec → Bool
stands t s w r =
    ltb 0 s and (eqb s (placed w.sort r.word1) and (ltb r.flags w.flags
    and (position_ok w.position r.pos and (words_ok t w.words r.word1 r.word2 and leb (singles w) r.count))))

abbrev pub good : ℕ → ℕ → Rec → Bool
good t s r = stands t s (row_for r.kind r.flags) r

-- ---- of trees

abbrev pub is_nil : List ℕ → Bool
is_nil [] = true
is_nil (s ∷ ss) = false

-- the sort expected next, where any number of b may follow the sorts ss; and those expected after it
abbrev pub next : ℕ → List ℕ → ℕ
next b [] = b
next b (s ∷ ss) = s

abbrev pub rest : List ℕ → List ℕ
rest [] = []
rest (s ∷ ss) = ss

-- a tree of the sort s; a row of trees of the sorts ss and then any number of the sort b (where b is none: no more)
unfoldable mutual
  pub of_sort : ℕ → ℕ → Tree → Bool
  of_sort t s (node h ts) = good t s (record_of h (count ts)) and of_sorts t none (children (record_of h (count ts))) ts

  pub of_sorts : ℕ → ℕ → List ℕ → Trees → Bool
  of_sorts t b ss ∅ = is_nil ss
  of_sorts t b ss (x ▸ xs) = of_sort t (next b ss) x and of_sorts t b (rest ss) xs

-- t is the length of the text
abbrev pub OfKind : ℕ → ℕ → Tree → Type 0
OfKind t s x = of_sort t s x ≡ true

abbrev pub AllOfKind : ℕ → ℕ → Trees → Type 0
AllOfKind t s xs = of_sorts t s [] xs ≡ true

-- ---- of lists of records

-- the list is trees of the sorts ss and then any number of the sort b: take a sort, test the record, put its children's sorts in front
unfoldable pub fits : ℕ → ℕ → List ℕ → List Rec → Bool
fits t b ss [] = is_nil ss
fits t b ss (r ∷ rs) = good t (next b ss) r and fits t b (children r ++ rest ss) rs

abbrev pub is_one : ℕ → ℕ → List Rec → Bool
is_one t s rs = fits t none (s ∷ []) rs

abbrev pub is_many : ℕ → ℕ → List Rec → Bool
is_many t s rs = fits t s [] rs
