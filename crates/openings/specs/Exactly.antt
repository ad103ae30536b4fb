-- The whole order of an opening call as one list of stages, and when each number is returned.
use Rattle.std.specs.Prelude.{ℕ, ◌<◌, ◌≡◌, ◌↔◌, Bool, true, false, List, [], ◌∷◌, ◌++◌, length}
use Rattle.trees.specs.Choice.{pick}
use Rattle.records.specs.Slots.{recs}
use Rattle.records.specs.Result as result
use Rattle.forms.specs.Kinds.{definition}
use Rattle.forms.specs.Forms.{is_one, is_many}
use Rattle.grounds.specs.Stages.{Stage, Nowhere, Refused, single}
use Rattle.grounds.specs.Order.{order}
use Rattle.grounds.specs.Opening.{counts_of, of_space}
use Rattle.opening.specs.Answers.{Outputs, space_in, pattern_sort}
use Rattle.templating.specs.Calls.{sizes}
use Rattle.openings.specs.Meaning.{definitions, pattern, due}

-- 7 or 1: the number of the sizes, where it is not 0
abbrev pub ill_sized_stage : ℕ → Stage
ill_sized_stage number = record { fact = λ n k. (n ≡ number) × (k ≡ 0) × (0 < number); start = 0; numbers = number ∷ [] }

-- 3: a list is not of its kind
abbrev pub ill_formed_stage : Bool → Stage
ill_formed_stage kind = single 3 0 (kind ≡ true → ⊥) (pick kind false true)

module _ (text defs patt : List ℕ) (b : Outputs) where
  -- 7, 1; 3 of the definitions, 3 of the pattern; the grounds; 6 of each output
  unfoldable pub whole_order : List Stage
  whole_order =
      ill_sized_stage (sizes (length text) (length defs) (length patt))
      ∷ ill_formed_stage (is_many (length text) definition (recs defs))
      ∷ ill_formed_stage (is_one (length text) pattern_sort (recs patt))
      ∷ (order text (definitions text defs patt) (pattern text defs patt) ++ of_space (space_in b) (counts_of (due text defs patt)))

  -- of the number r that is returned
  pub record Exactly (r : ℕ) : Type 0 where
    -- refusal n at the place k: if and only if that ground holds there and none before it in the order
    pub refused : (n k : ℕ) → 0 < n → k < 4294967296 → r ≡ result.refused n k ↔ Refused whole_order n k
    -- no refusal: if and only if no ground holds; the number is then the count of the opened pattern's records
    pub accepted : result.refusal_of r ≡ 0 ↔ Nowhere (Refused whole_order)
    pub counted : Nowhere (Refused whole_order) → r ≡ result.accepted (counts_of (due text defs patt)).output
