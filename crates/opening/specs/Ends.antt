-- A table of the ends of trees.
use Rattle.std.specs.Prelude.{◌≡◌, List, ℕ, ◌+◌, ◌<◌, ◌≤◌, length, get_or, drop}
use Rattle.trees.specs.declared.Rec.{Rec}
use Rattle.trees.specs.Tree.{count, trees_of}
use Rattle.records.specs.Slots.{slots, rec_at, recs}
use Rattle.expansion.specs.Flat.{span, end_of}

-- from the index i on the table holds where the tree of each record ends
unfoldable pub EndsFrom : List Rec → List ℕ → ℕ → Type 0
EndsFrom l ends i = (k : ℕ) → i ≤ k → k < length l → get_or ends k 0 ≡ end_of l k

-- the index after c trees of the source from the index `at` on
abbrev pub behind : List ℕ → ℕ → ℕ → ℕ
behind src at c = at + span (drop at (recs src)) c

-- the source has c trees from the index `at` on, and the table holds where each one ends; `from` is the index after `last` of them
pub record Hop (src ends : List ℕ) (at from last c : ℕ) : Type 0 where
  pub ended : EndsFrom (recs src) ends at
  pub long : slots src ≤ length ends
  pub there : c ≤ count (trees_of (drop at (recs src)))
  pub begun : from ≡ behind src at last

-- what is asked where the child c of the record k is looked for, and `from` is the index after `last` children
pub record Childed (src ends : List ℕ) (k from last c : ℕ) : Type 0 where
  pub hop : Hop src ends (k + 1) from last c
  pub below : c < (rec_at src k).count
  pub inside : k < slots src

-- the child c of the record k is at the index a
pub record Child (src : List ℕ) (k c a : ℕ) : Type 0 where
  pub at : a ≡ behind src (k + 1) c
  pub below : c < (rec_at src k).count
