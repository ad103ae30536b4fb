-- What isle_open's answer is worth: which ground of document 01 holds, and none before it in the order; or demand 3.
use Rattle.std.specs.Prelude.{ℕ, ◌≡◌, true, List, length}
use Rattle.trees.specs.Tree.{Tree, Trees, records, records_all, trees_of}
use Rattle.records.specs.Slots.{recs}
use Rattle.forms.specs.Kinds.{definition}
use Rattle.forms.specs.Forms.{is_one, is_many}
use Rattle.expansion.specs.Expansion.{Extractors, extractors}
use Rattle.expansion.specs.Demand.{Opens, StoreOpens}
use Rattle.grounds.specs.declared.Counts.{Counts}
use Rattle.grounds.specs.Stages.{refusal, Nowhere, Refused}
use Rattle.grounds.specs.Order.{order}
use Rattle.grounds.specs.Opening.{tree_of, Written, counts_of, Fits, of_space, Outcome, accept, refuse, all_opened}
use Rattle.opening.specs.Answers.{Outputs, space_in, pattern_sort}
use Rattle.templating.specs.Calls.{sizes}
use Rattle.openings.specs.Calls.{Left}

module _ (text defs patt : List ℕ) where
  abbrev pub definitions : Trees
  definitions = trees_of (recs defs)

  abbrev pub pattern : Tree
  pattern = tree_of (recs patt)

  abbrev pub called : Extractors
  called = extractors text definitions

  -- 7 and 1 do not hold, and the lists are definitions and one pattern
  pub record OfKind : Type 0 where
    pub sized : sizes (length text) (length defs) (length patt) ≡ 0
    pub many : is_many (length text) definition (recs defs) ≡ true
    pub one : is_one (length text) pattern_sort (recs patt) ≡ true

  -- the trees are the lent records: what is said of them is said of what was lent
  pub record TreesLent : Type 0 where
    pub all : records_all definitions ≡ recs defs
    pub one : records pattern ≡ recs patt

  -- no ground from 4 to 33 holds anywhere
  abbrev pub NoGround : Type 0
  NoGround = Nowhere (Refused (order text definitions pattern))

  -- what the store and the output get: the opened templates, and the opened pattern
  abbrev pub due : Written
  due = all_opened text definitions pattern

  -- with so much room
  pub data Meaning (room : Counts) : Outcome → Type 0 where
    -- 7 or 1
    ill_sized : (n : ℕ) → n ≡ sizes (length text) (length defs) (length patt) → (n ≡ 0 → ⊥) → Meaning room (refuse (refusal n 0))
    -- 3
    ill_formed : sizes (length text) (length defs) (length patt) ≡ 0 → (OfKind → ⊥) → Meaning room (refuse (refusal 3 0))
    -- 4, 8, 33, 30, 32, 31 at its place, and none before it in the order
    ground : OfKind → TreesLent → (n k : ℕ) → Refused (order text definitions pattern) n k → Meaning room (refuse (refusal n k))
    -- 6 at 0 or 1: all else is accepted, and there is room for fewer records in the store, or else in the output
    no_space : OfKind → TreesLent → NoGround → (n k : ℕ) → Refused (of_space room (counts_of due)) n k → Meaning room (refuse (refusal n k))
    -- accepted: all of it fits, and demand 3 holds of the pattern and of each template
    accepted : OfKind → TreesLent → NoGround → Fits room (counts_of due) → Opens text called pattern → StoreOpens text called → Meaning room (accept due)

-- the number r, and what the outputs b then hold, are those of an outcome of which this holds
pub record OpeningWorth (text defs patt : List ℕ) (b b' : Outputs) (r : ℕ) : Type 0 where
  pub outcome : Outcome
  pub ended : Left outcome b b' r
  pub meaning : Meaning text defs patt (space_in b) outcome
