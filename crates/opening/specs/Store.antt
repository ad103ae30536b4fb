-- What filling the store may count on, and what it promises.
use Rattle.std.specs.Prelude.{◌≡◌, Option, Some, List, [], ℕ, ◌≤◌, length, get_or}
use Rattle.trees.specs.Tree.{trees_of}
use Rattle.records.specs.Slots.{slots, recs}
use Rattle.expansion.specs.Expansion.{Extractors, extractors, opened_templates}
use Rattle.expansion.specs.Acceptance.{AllFine}
use Rattle.expansion.specs.Flat.{Placed, All, store_records}
use Rattle.grounds.specs.Leaves.{ExtractorPlaced}
use Rattle.judging.specs.declared.table.Entry.{Entry}
use Rattle.judging.specs.Table.{RowsOf, Table}
use Rattle.opening.specs.declared.Side.TheVariants.{Store}
use Rattle.opening.specs.Wrote.{Wrote}
use Rattle.opening.specs.Ends.{EndsFrom}
use Rattle.opening.specs.Walk.{Region}

abbrev pub extractors_in : List ℕ → List ℕ → Extractors
extractors_in text defs = extractors text (trees_of (recs defs))

pub record Source (text : List ℕ) (t : List Entry) (defs ends : List ℕ) : Type 0 where
  pub table : Table text defs t
  pub fine : AllFine text (extractors_in text defs) [] (extractors_in text defs)
  pub placed : All Placed (recs defs)
  pub extractors-placed : All ExtractorPlaced (recs defs)
  pub small : slots defs ≤ 65536
  pub ended : EndsFrom (recs defs) ends 0
  pub ends-long : slots defs ≤ length ends

-- the opened templates were written to the store, so many records; where they fit, `starts` says where each one begins
pub record Stored (space : ℕ) (text : List ℕ) (t : List Entry) (defs s o starts s' o' : List ℕ) (r : Option ℕ) : Type 0 where
  pub wrote : Wrote Store space s o 0 (store_records (opened_templates text (extractors_in text defs))) s' o' r
  pub rows : (y : ℕ) → r ≡ Some y → RowsOf (Region starts s' y) text t 0 (opened_templates text (extractors_in text defs))
  pub last : (y : ℕ) → r ≡ Some y → get_or starts (length t) 0 ≡ y
