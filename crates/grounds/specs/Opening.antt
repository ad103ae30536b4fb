-- The whole answer of opening, after the checks of the lists: the grounds, then space.
use Rattle.std.proofs.Math.Option.{Option, none, some}
use Rattle.std.specs.Prelude.{List, [], ◌∷◌, ◌++◌, ℕ, ◌<◌, ◌≤◌, ltb, length}
use Rattle.trees.specs.declared.Rec.{Rec}
use Rattle.trees.specs.Tree.{Tree, Trees, node, ∅, head, records, trees_of}
use Rattle.expansion.specs.Nodes.{tree_at}
use Rattle.expansion.specs.Expansion.{extractors, opened_templates, opened}
use Rattle.expansion.specs.Flat.{store_records}
use Rattle.grounds.specs.declared.Counts.{Counts}
use Rattle.grounds.specs.Stages.{Refusal, Stage, verdict, single}
use Rattle.grounds.specs.Order.{order}

-- the one tree of a list
unfoldable pub tree_of : List Rec → Tree
tree_of rs = tree_at (trees_of rs) 0 (node (head 0 0 0 0 0) ∅)

-- ---- the outputs: what an acceptance writes to each, and for how much there is room

pub record Written : Type 0 where
  -- to the store: the opened templates, in list order
  pub templates : List Rec
  -- to the output: the opened pattern
  pub pattern : List Rec

abbrev pub written : List Rec → List Rec → Written
written templates pattern = record { templates = templates; pattern = pattern }

abbrev pub counts : ℕ → ℕ → Counts
counts store output = record { store = store; output = output }

unfoldable pub counts_of : Written → Counts
counts_of w = counts (length w.templates) (length w.pattern)

-- where there is room for so many, n fit
pub record Fits (room n : Counts) : Type 0 where
  pub store : n.store ≤ room.store
  pub output : n.output ≤ room.output

-- 6 at a place: n is more than there is room for
abbrev pub too_long : ℕ → ℕ → ℕ → Stage
too_long place room n = single 6 place (room < n) (ltb room n)

-- 6 for the store, 6 for the output
unfoldable pub of_space : Counts → Counts → List Stage
of_space room n = too_long 0 room.store n.store ∷ too_long 1 room.output n.output ∷ []

-- ---- the answer

pub data Outcome : Type 0 where
  accept : Written → Outcome
  refuse : Refusal → Outcome

abbrev pub after : Option Refusal → Written → Outcome
after (some r) w = refuse r
after none w = accept w

module _ (text : List ℕ) (ds : Trees) (p : Tree) where
  -- what is written where nothing is refused
  abbrev pub all_opened : Written
  all_opened = written (store_records (opened_templates text (extractors text ds))) (records (opened text (extractors text ds) p))

  unfoldable pub opening : Counts → Outcome
  opening room = after (verdict (order text ds p ++ of_space room (counts_of all_opened))) all_opened
