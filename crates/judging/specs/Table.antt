-- The table of extractors: the range of the name, the number of parameters and the place of each.
use Rattle.std.specs.Prelude.{◌≡◌, true, position, Option, List, [], ◌∷◌, ℕ, suc, ◌+◌, ◌-◌, ◌<◌, ◌≤◌, length, get_or, drop}
use Rattle.trees.specs.Tree.{firsts, trees_of}
use Rattle.trees.specs.Names.{spelled}
use Rattle.words.specs.Bytes.{same_bytes}
use Rattle.records.specs.Slots.{slots, rec_at, recs}
use Rattle.expansion.specs.Nodes.{is_extractor}
use Rattle.expansion.specs.Expansion.{Named, Extractor, Extractors, extractor, extractors}
use Rattle.judging.specs.declared.table.Entry.{Entry}

-- the row x
abbrev pub row : List Entry → ℕ → Entry
row t x = get_or t x (record { name = 0; arity = 0; place = 0 })

abbrev pub name_in : List Entry → ℕ → ℕ
name_in t x = (row t x).name

abbrev pub arity_in : List Entry → ℕ → ℕ
arity_in t x = (row t x).arity

abbrev pub place_in : List Entry → ℕ → ℕ
place_in t x = (row t x).place

-- the number of the first row that has the name w
unfoldable pub looked : List ℕ → List Entry → ℕ → Option ℕ
looked text t w = position (λ e. same_bytes (spelled text w) (spelled text e.name)) t

-- the rows from x on have the names of es, and Q holds of each row's number and what has the name
abbrev pub RowsOf : {A : Type 0} → (ℕ → A → Type 0) → List ℕ → List Entry → ℕ → List (Named A) → Type 0
RowsOf Q text t x [] = Unit {0}
RowsOf Q text t x (e ∷ es) = (e.name ≡ spelled text (name_in t x)) × Q x e.value × RowsOf Q text t (suc x) es

-- the row x is that of the extractor e of the definitions
pub record RowOf (text defs : List ℕ) (t : List Entry) (x : ℕ) (e : Named Extractor) : Type 0 where
  pub there : place_in t x + 1 < slots defs
  pub kind : is_extractor (rec_at defs (place_in t x)).kind ≡ true
  pub word : name_in t x ≡ (rec_at defs (place_in t x + 1)).word1
  pub size : arity_in t x + 2 ≡ (rec_at defs (place_in t x)).count
  pub is : extractor text (firsts (rec_at defs (place_in t x)).count (trees_of (drop (place_in t x + 1) (recs defs)))) ≡ e ∷ []

-- the rows from x on
abbrev pub Rows : List ℕ → List ℕ → List Entry → ℕ → Extractors → Type 0
Rows text defs t x [] = Unit {0}
Rows text defs t x (e ∷ E) = RowOf text defs t x e × Rows text defs t (suc x) E

-- all of them, and nothing else
pub record Table (text defs : List ℕ) (t : List Entry) : Type 0 where
  pub rows : Rows text defs t 0 (extractors text (trees_of (recs defs)))
  pub size : length (extractors text (trees_of (recs defs))) ≡ length t
  pub few : length t ≤ 256

-- the row of the Extractor at the index i
abbrev pub entry_of : List ℕ → ℕ → Entry
entry_of defs i = record { name = (rec_at defs (i + 1)).word1; arity = (rec_at defs i).count - 2; place = i }

-- it is an Extractor's
pub record RowRoom (defs : List ℕ) (i : ℕ) : Type 0 where
  pub second : i + 1 < slots defs
  pub two : 2 ≤ (rec_at defs i).count
