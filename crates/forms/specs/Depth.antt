-- Depth: a pattern or expression in a definition has depth 1; one inside another has one more.
use Rattle.std.specs.Prelude.{ℕ, zero, suc, ◌+◌, ◌-◌, ◌≤◌, Bool, true, false, List, [], ◌∷◌, ◌++◌, eqb, length}
use Rattle.trees.specs.declared.Rec.{Rec}
use Rattle.trees.specs.Choice.{pick}
use Rattle.trees.specs.Tree.{Tree, Trees, node, ∅, ◌▸◌}
use Rattle.forms.specs.Kinds.{pattern, expression, row_for}
use Rattle.forms.specs.Lists.{first_is}

-- whether a sort is a level of its own: patterns and expressions are, an IfLet or a LetDef is not
unfoldable pub is_level : ℕ → Bool
is_level s = pick (eqb s pattern) true (eqb s expression)

abbrev pub level_of : ℕ → ℕ → Bool
level_of k f = is_level (row_for k f).sort

-- the depth of each node of a tree that stands inside d levels, in the order of the records; 0 for one that is no level
unfoldable mutual
  pub depths : ℕ → Tree → List ℕ
  depths d (node h ts) =
      pick (level_of h.kind h.flags) (suc d) 0 ∷ depths_all (pick (level_of h.kind h.flags) (suc d) d) ts

  pub depths_all : ℕ → Trees → List ℕ
  depths_all d ∅ = []
  depths_all d (t ▸ ts) = depths d t ++ depths_all d ts

abbrev pub too_deep : ℕ
too_deep = 65

-- the index of the first pattern or expression at depth 65, or the number of records
abbrev pub first_deep : Trees → ℕ
first_deep ts = first_is too_deep (depths_all 0 ts)

-- ---- the same over a list of records, with the number of trees that each open level still expects, the innermost first

-- levels that expect nothing more are left
unfoldable pub settle : List ℕ → List ℕ
settle [] = []
settle (zero ∷ ns) = settle ns
settle (suc n ∷ ns) = suc n ∷ ns

-- the innermost level has read one tree
unfoldable pub read_one : List ℕ → List ℕ
read_one [] = []
read_one (n ∷ ns) = (n - 1) ∷ ns

-- it expects c more
unfoldable pub expect : ℕ → List ℕ → List ℕ
expect c [] = []
expect c (n ∷ ns) = (n + c) ∷ ns

-- a level is entered with the c children of a record, or the innermost one expects them
unfoldable pub enter : Bool → ℕ → List ℕ → List ℕ
enter true c ns = c ∷ ns
enter false c ns = expect c ns

unfoldable pub flat_depths : List ℕ → List Rec → List ℕ
flat_depths ns [] = []
flat_depths ns (r ∷ rs) =
    pick (level_of r.kind r.flags) (suc (length (settle ns))) 0
    ∷ flat_depths (enter (level_of r.kind r.flags) r.count (read_one (settle ns))) rs

abbrev pub first_deep_in : List Rec → ℕ
first_deep_in rs = first_is too_deep (flat_depths [] rs)

-- no level expects more than b
unfoldable pub Small : ℕ → List ℕ → Type 0
Small b [] = Unit {0}
Small b (n ∷ ns) = (n ≤ b) × Small b ns
