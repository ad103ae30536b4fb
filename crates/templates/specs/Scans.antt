-- What the scans of making a template and of substituting find at a record.
use Rattle.std.specs.Prelude.{ℕ, ◌+◌, ◌<◌, ◌≤◌, ◌≡◌, Bool, true, List, [], ◌∷◌, length, get_or, drop, ltb}
use Rattle.std.specs.Prelude.{Option as Found, Some, None}
use Rattle.std.proofs.Math.Option.{Option, none, some}
use Rattle.trees.specs.Choice.{pick}
use Rattle.trees.specs.declared.Rec.{Rec}
use Rattle.trees.specs.Tree.{Trees, count, trees_of}
use Rattle.trees.specs.Names.{spelled}
use Rattle.records.specs.Slots.{slots, rec_at, recs}
use Rattle.expansion.specs.Nodes.{is_var, is_macro_arg}
use Rattle.expansion.specs.Templates.{position}
use Rattle.expansion.specs.Flat.{span, tree_records, fill, wildcard_next, stands_at, making}

-- ---- making a template

-- an index found, or none
unfoldable pub option_of : Found ℕ → Option ℕ
option_of (Some i) = some i
option_of None = none

-- the parameters
unfoldable pub params_of : List ℕ → Trees
params_of params = trees_of (recs params)

-- the parameter of the name that comes first in a list
unfoldable pub named_next : List ℕ → Trees → List Rec → Option ℕ
named_next text params [] = none
named_next text params (i ∷ rs) = position text (spelled text i.word1) params

-- that of the name at slot j
unfoldable pub named_at : List ℕ → List ℕ → ℕ → List ℕ → Option ℕ
named_at text pattern j params = named_next text (params_of params) (drop j (recs pattern))

-- whether a Wildcard stands at slot j
unfoldable pub wildcard_at : List ℕ → ℕ → Bool
wildcard_at pattern j = wildcard_next (drop j (recs pattern))

-- the parameter that the record at slot i stands for
unfoldable pub parameter_at : List ℕ → List ℕ → ℕ → List ℕ → Option ℕ
parameter_at text pattern i params = stands_at text (params_of params) (rec_at pattern i) (drop (i + 1) (recs pattern))

-- what is made of the records from slot i on
unfoldable pub making_from : List ℕ → List ℕ → ℕ → List ℕ → List Rec
making_from text pattern i params = making text (params_of params) (drop i (recs pattern)) 0

-- where the scan goes on after a record of a kind that stands for a parameter
unfoldable pub after_parameter : ℕ → ℕ → ℕ
after_parameter kind i = i + 1 + pick (is_var kind) 1 2

-- the MacroArg of the parameter k
abbrev pub argument : ℕ → ℕ → Rec
argument pos k = record { kind = 38; flags = 0; count = 0; pos = pos; word1 = k; word2 = 0 }

-- first is the record made of that at slot i, and n the slot where the scan goes on
pub record MadeAt (text pattern : List ℕ) (i : ℕ) (params : List ℕ) (first : Rec) (n : ℕ) : Type 0 where
  pub made : making_from text pattern i params ≡ first ∷ making_from text pattern n params
  pub later : i < n
  pub near : n ≤ i + 3

-- ---- substituting

-- the table of the starts of m patterns
pub record Starts (patterns starts : List ℕ) (m : ℕ) : Type 0 where
  pub counted : m ≡ count (trees_of (recs patterns))
  pub room : m ≤ length starts
  pub at : (j : ℕ) → j < m → get_or starts j 0 ≡ span (recs patterns) j
  pub last : span (recs patterns) m ≡ slots patterns

-- where the pattern k starts, or where the last one ends
unfoldable pub start_of : List ℕ → ℕ → ℕ → ℕ → ℕ
start_of starts m end k = pick (ltb k m) (get_or starts k 0) end

-- the records of the pattern k
unfoldable pub pattern_records : List ℕ → ℕ → List Rec
pattern_records patterns k = tree_records (recs patterns) k

-- what a record becomes
unfoldable pub filled_by : List ℕ → Rec → List Rec
filled_by patterns r = pick (is_macro_arg r.kind) (pattern_records patterns r.word1) (r ∷ [])

-- what the records from slot i on become
unfoldable pub fill_from : List ℕ → ℕ → List ℕ → List Rec
fill_from template i patterns = fill (tree_records (recs patterns)) (drop i (recs template))

-- each MacroArg is one of m
pub record ArgsBelow (template : List ℕ) (m : ℕ) : Type 0 where
  pub below : (i : ℕ) → i < slots template → is_macro_arg (rec_at template i).kind ≡ true → (rec_at template i).word1 < m
