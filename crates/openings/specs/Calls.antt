-- What isle_open answers and leaves in its outputs, for every input: refusals in the order 7, 1, 3, then the grounds, then 6.
use Rattle.std.specs.Prelude.{ℕ, ◌-◌, ◌*◌, ◌≡◌, Ok, Err, List, ◌++◌, length, take, replicate}
use Rattle.trees.specs.Tree.{trees_of}
use Rattle.records.specs.Slots.{recs}
use Rattle.forms.specs.Kinds.{definition, pattern}
use Rattle.forms.specs.Forms.{is_one, is_many}
use Rattle.grounds.specs.Stages.{refusal}
use Rattle.grounds.specs.Opening.{tree_of, Outcome, accept, refuse, opening}
use Rattle.opening.specs.Answers.{Answered, Outputs, outputs, space_in, begun, number_of, answer_of}
use Rattle.templating.specs.Calls.{sizes, lent}

abbrev pub stopped : ℕ → Outcome
stopped code = refuse (refusal code 0)

-- the number of the check that refuses, 7, 1 or 3; 0 where none does
unfoldable pub check : List ℕ → List ℕ → List ℕ → ℕ
check text defs patt =
    lent (λ n. n) (sizes (length text) (length defs) (length patt))
    (is_many (length text) definition (recs defs))
    (is_one (length text) pattern (recs patt))
    0

-- definitions and one pattern, with the outputs b
unfoldable pub opening_of : List ℕ → List ℕ → List ℕ → Outputs → Outcome
opening_of text defs patt b =
    lent stopped (sizes (length text) (length defs) (length patt))
    (is_many (length text) definition (recs defs))
    (is_one (length text) pattern (recs patt))
    (opening text (trees_of (recs defs)) (tree_of (recs patt)) (space_in b))

-- the number that is returned: the count is the opened pattern's alone
unfoldable pub number : Outcome → ℕ
number c = number_of (answer_of c)

-- outputs of the same lengths, all zero
unfoldable pub zeros : Outputs → Outputs
zeros b = outputs (replicate (length b.store) 0) (replicate (length b.output) 0)

-- what the outputs b then hold: the records and then zeros, or all zero
unfoldable pub filled : Outputs → Outcome → Outputs
filled b (accept w) = begun w (zeros b)
filled b (refuse r) = zeros b

-- the number r, and the outputs b, which then hold b'
pub record Left (c : Outcome) (b b' : Outputs) (r : ℕ) : Type 0 where
  pub returns : r ≡ number c
  pub holds : b' ≡ filled b c

-- of l the first n records are kept, with zeros after them
unfoldable pub kept : ℕ → List ℕ → List ℕ
kept n l = take (n * 24) l ++ replicate (length l - n * 24) 0

-- what an answer leaves of the outputs
unfoldable pub kept_by : Answered → Outputs → Outputs
kept_by (Ok n) b = outputs (kept n.store b.store) (kept n.output b.output)
kept_by (Err r) b = zeros b

-- the number returned for an answer, and what is left
pub record Finished (a : Answered) (b b' : Outputs) (r : ℕ) : Type 0 where
  pub returns : r ≡ number_of a
  pub holds : b' ≡ kept_by a b
