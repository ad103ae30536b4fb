-- What judging the definitions once, and then a pattern, promises: the verdict on the whole order.
use Rattle.std.specs.Prelude.{◌≡◌, Ok, List, ℕ, ◌+◌, ◌≤◌, length, take}
use Rattle.std.proofs.Math.Option.{Option}
use Rattle.trees.specs.Tree.{∅, ◌▸◌, trees_of}
use Rattle.records.specs.Slots.{slots, recs}
use Rattle.expansion.specs.Flat.{Placed, All}
use Rattle.grounds.specs.Stages.{Refusal, ◌or_else◌, found, verdict}
use Rattle.grounds.specs.Order.{macro_args, too_deeps, too_many, extractor_places, of_definitions, grounds}
use Rattle.grounds.specs.Opening.{tree_of}
use Rattle.grounds.specs.Leaves.{ExtractorPlaced}
use Rattle.judging.specs.declared.whole.Findings.{Findings}
use Rattle.judging.specs.declared.table.Entry.{Entry}
use Rattle.judging.specs.Table.{Table}
use Rattle.judging.specs.Judging.{Judged, Answers}

-- ---- what is known of lent lists that are of their kind and within the limits

pub record DefinitionsShaped (defs : List ℕ) : Type 0 where
  pub few : slots defs ≤ 65536
  pub placed : All Placed (recs defs)
  pub extractors-placed : All ExtractorPlaced (recs defs)

pub record PatternShaped (pattern : List ℕ) : Type 0 where
  pub small : slots pattern ≤ 65536
  pub placed : All Placed (recs pattern)
  pub one : trees_of (recs pattern) ≡ tree_of (recs pattern) ▸ ∅

-- ---- the definitions

-- making the table; a fine answer is how many extractors it holds
pub record Tabled (defs : List ℕ) (t : List Entry) (r : Judged) : Type 0 where
  pub answers : Answers (found (too_many (extractor_places 0 (trees_of (recs defs))))) (slots defs) r
  pub within : (n : ℕ) → r ≡ Ok n → n ≤ length t
  pub table : (n : ℕ) → r ≡ Ok n → (text : List ℕ) → Table text defs (take n t)

-- 33, and the extractors' stages; a fine answer is how many extractors the table holds
pub record OthersJudged (text defs : List ℕ) (t : List Entry) (r : Judged) : Type 0 where
  pub answers : Answers (verdict (of_definitions text (trees_of (recs defs)))) (slots defs) r
  pub within : (n : ℕ) → r ≡ Ok n → n ≤ length t
  pub table : (n : ℕ) → r ≡ Ok n → Table text defs (take n t)

-- all that is found in them, whatever the pattern: 4; 8; the others
pub record FoundIn (text defs : List ℕ) (t : List Entry) (f : Findings) : Type 0 where
  pub args : Answers (found (macro_args (trees_of (recs defs)) 0)) (slots defs) f.args
  pub deep : Answers (found (too_deeps (trees_of (recs defs)) 0)) (slots defs) f.deep
  pub others : OthersJudged text defs t f.others

-- ---- a pattern after them

-- 4 of both lists, then 8 of both
abbrev pub both : List ℕ → List ℕ → Option Refusal
both defs pattern =
    found (macro_args (trees_of (recs defs)) 0)
    or_else found (macro_args (trees_of (recs pattern)) (slots defs))
    or_else found (too_deeps (trees_of (recs defs)) 0)
    or_else found (too_deeps (trees_of (recs pattern)) (slots defs))

-- all grounds; a fine answer is how many extractors the table holds
pub record Grounded (text defs pattern : List ℕ) (t : List Entry) (r : Judged) : Type 0 where
  pub answers : Answers (grounds text (trees_of (recs defs)) (tree_of (recs pattern))) (slots defs + slots pattern) r
  pub within : (n : ℕ) → r ≡ Ok n → n ≤ length t
  pub table : (n : ℕ) → r ≡ Ok n → Table text defs (take n t)
