-- The code's table has the rows of the kinds; a kind past its end has none. Assumes nothing.
use mathlib.Core.Path.{◌≡◌, refl, sym, ◌∙◌}
use mathlib.Core.Bool.{Bool, true}
use mathlib.Core.List.{List, [], ◌∷◌}
use Prim.Native.Nat.{ℕ, zero, suc, ◌+◌, ◌-◌, ◌≤◌, ◌<◌}
use native.Mathlib.Omega.{arith}
use lib.ListN.{get_or}
use lib.Dec.{eqb, ltb}
use borrow.Author.Tests.{ltb-true, ne_eqb, lt-ltb, le-ltb}
use Rattle.trees.specs.Choice.{pick}
use Rattle.forms.specs.Tests.{◌and◌}
use Rattle.std.specs.Prelude.{Option}
use Rattle.forms.specs.declared.Row.{Row}
use Rattle.forms.specs.declared.table.TheConstants.{ROWS}
use Rattle.forms.specs.Kinds.{Columns, Entry, nobody, rows, find, row_for}
use Rattle.forms.specs.Table.{kinds_end, row_at, rows_from, table, columns_if}
use Rattle.forms.proofs.TestLaws.{both, false_and, and_false}

-- ---- the code's rows are those of the kinds, one by one

abbrev all_columns : List (Option Row) → List Columns
all_columns [] = []
all_columns (w ∷ ws) = columns_if w ∷ all_columns ws

rows_are : all_columns ROWS ≡ table
unfolding table rows_from row_at find rows ◌and◌
rows_are = refl

cell : (ws : List (Option Row)) (n m i q : ℕ) (d : Option Row) → all_columns ws ≡ rows_from m n → i < n → q ≡ m + i → columns_if (get_or ws i d) ≡ row_at q
unfolding rows_from
cell [] zero m i q d e h k = absurd (omega arith)
cell [] (suc n) m i q d e h k = absurd (cc)
cell (w ∷ ws) zero m i q d e h k = absurd (omega arith)
cell (w ∷ ws) (suc n) m zero q d e h k = let y : m ≡ q = omega arith in rw (← y) (cc)
cell (w ∷ ws) (suc n) m (suc i) q d e h k = cell ws n (suc m) i q d (cc) (omega arith) (omega arith)

pub table-row : (i k f : ℕ) (d : Option Row) → i < 4 + kinds_end → row_at i ≡ row_for k f → columns_if (get_or ROWS i d) ≡ row_for k f
unfolding table
table-row i k f d h r = cell ROWS (4 + kinds_end) 0 i i d rows_are h (omega arith) ∙ r

-- ---- which row a record has

pub row_rule : (k f : ℕ) → k ≡ 20 → f < 4 → row_at f ≡ row_for k f
unfolding row_at row_for
row_rule k f n h = rw (n, lt-ltb f 4 h)

pub row_kind : (k f : ℕ) → (k ≡ 20 → ⊥) → row_at (4 + k) ≡ row_for k f
unfolding row_at row_for
row_kind k f h =
    let e : 4 + k - 4 ≡ k = omega arith in
    rw (le-ltb (4 + k) 4 (omega arith), e, ne_eqb k 20 h)

-- every row's kind and flags are in the table
in_table : List Entry → Bool
in_table [] = true
in_table (e ∷ es) = (ltb e.kind kinds_end and ltb e.by_flags 4) and in_table es

all_in : in_table rows ≡ true
unfolding in_table rows ◌and◌
all_in = refl

absent_kind : (k v : ℕ) (es : List Entry) → kinds_end ≤ k → in_table es ≡ true → find k v es ≡ nobody
unfolding in_table find
absent_kind k v [] h e = refl
absent_kind k v (x ∷ es) h e =
    let p = both e in
    let n : x.kind < kinds_end = ltb-true _ _ (both p.0).0 in
    rw (ne_eqb x.kind k (λ q. omega arith), false_and) (absent_kind k v es h p.1)

absent_flags : (k v : ℕ) (es : List Entry) → 4 ≤ v → in_table es ≡ true → find k v es ≡ nobody
unfolding in_table find
absent_flags k v [] h e = refl
absent_flags k v (x ∷ es) h e =
    let p = both e in
    let n : x.by_flags < 4 = ltb-true _ _ (both p.0).1 in
    rw (ne_eqb x.by_flags v (λ q. omega arith), and_false) (absent_flags k v es h p.1)

row-none : row_at 4 ≡ nobody
unfolding row_at find rows ◌and◌
row-none = refl

pub row_past : (k f : ℕ) → kinds_end ≤ k → row_at 4 ≡ row_for k f
unfolding row_for
row_past k f h = row-none ∙ sym (absent_kind k (pick (eqb k 20) f 0) rows h all_in)

pub row_bad_flags : (k f : ℕ) → k ≡ 20 → 4 ≤ f → row_at 4 ≡ row_for k f
unfolding row_for
row_bad_flags k f n h = row-none ∙ sym (rw n (absent_flags 20 f rows h all_in))
