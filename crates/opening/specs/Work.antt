-- What the functions that open judged lists may count on, and what they promise.
use Rattle.std.specs.Prelude.{◌≡◌, Option, Some, None, Ok, Err, List, [], ℕ, ◌<◌, ◌≤◌, length, get_or}
use Rattle.std.proofs.Math.Option.{none}
use Rattle.trees.specs.Tree.{Tree, trees_of}
use Rattle.records.specs.Slots.{slots, recs}
use Rattle.records.specs.declared.Ground.TheVariants.{NoSpace}
use Rattle.expansion.specs.Expansion.{Named}
use Rattle.expansion.specs.Acceptance.{PatternFine, AllFine}
use Rattle.expansion.specs.Flat.{opened_at}
use Rattle.grounds.specs.declared.Counts.{Counts}
use Rattle.grounds.specs.Order.{grounds}
use Rattle.grounds.specs.Opening.{tree_of, counts, counts_of, Fits, Outcome, accept, refuse, opening}
use Rattle.judging.specs.Judging.{flaw}
use Rattle.judging.specs.declared.table.Entry.{Entry}
use Rattle.judging.specs.Table.{Table}
use Rattle.judging.specs.Whole.{DefinitionsShaped, PatternShaped}
use Rattle.opening.specs.declared.Side.TheVariants.{Output}
use Rattle.opening.specs.Wrote.{Wrote}
use Rattle.opening.specs.Ends.{EndsFrom}
use Rattle.opening.specs.Made.{params_at}
use Rattle.opening.specs.Walk.{Ready, Room}
use Rattle.opening.specs.Store.{extractors_in}
use Rattle.opening.specs.Answers.{Answer, numbered, Countable, answer_of, Outputs, outputs, space_in, begun}

-- ---- what is known

-- what is known of definitions in which nothing is wrong, whatever the pattern
pub record Passed (text : List ℕ) (t : List Entry) (defs : List ℕ) : Type 0 where
  pub shape : DefinitionsShaped defs
  pub table : Table text defs t
  pub fine : AllFine text (extractors_in text defs) [] (extractors_in text defs)

-- and of a pattern after them
pub record PatternPassed (text defs p : List ℕ) : Type 0 where
  pub shape : PatternShaped p
  pub fine : PatternFine text (extractors_in text defs) (tree_of (recs p))

-- what is known once the grounds are judged and none holds
pub record Accepting (text : List ℕ) (t : List Entry) (defs p : List ℕ) : Type 0 where
  pub definitions : Passed text t defs
  pub pattern : PatternPassed text defs p
  pub fine : grounds text (trees_of (recs defs)) (tree_of (recs p)) ≡ none

-- ---- the store, then the output

-- ready once there is a table of ends
unfoldable pub ReadyFor : List ℕ → List Entry → List ℕ → List ℕ → List ℕ → List (Named Tree) → Type 0
ReadyFor text t starts src store S = (ends : List ℕ) → EndsFrom (recs src) ends 0 → slots src ≤ length ends → Ready text t starts src ends 0 0 0 store S

-- the pattern was opened into the output, from the slot `start` on
unfoldable pub PatternOpened : ℕ → ℕ → List ℕ → List Entry → List ℕ → List ℕ → List ℕ → List ℕ → List ℕ → List ℕ → Option ℕ → Type 0
PatternOpened start space text t starts src s o s' o' y =
    (S : List (Named Tree)) → ReadyFor text t starts src s S → Wrote Output space s o start (opened_at text S (params_at src 0 0) (recs src) 0 1) s' o' y

-- what writing the opened templates may count on
pub record TemplatesAsked (text : List ℕ) (t : List Entry) (defs ends starts store : List ℕ) (space : ℕ) : Type 0 where
  pub passed : Passed text t defs
  pub ends-long : slots defs ≤ length ends
  pub starts-long : 256 < length starts
  pub there : space ≤ slots store
  pub most : space ≤ 65536

-- what writing the opened pattern may count on, from the slot `start` on
pub record PatternAsked (text : List ℕ) (t : List Entry) (p ends starts store out : List ℕ) (start space : ℕ) : Type 0 where
  pub templates : List (Named Tree)
  pub ready : ReadyFor text t starts p store templates
  pub shape : PatternShaped p
  pub ends-long : slots p ≤ length ends
  pub room : Room Output space (get_or starts (length t) 0) store out start

-- the same for the last step of a call, after y records in the store
unfoldable pub LastAsked : List ℕ → List Entry → List ℕ → List ℕ → List ℕ → List ℕ → List ℕ → ℕ → Counts → Type 0
LastAsked text t p ends starts store out y space = PatternAsked text t p ends starts store out 0 space.output

-- the answer by how many records the output has, after y records in the store; or 6 at 1
abbrev pub ended_at : ℕ → Option ℕ → Answer
ended_at y (Some z) = Ok (counts y z)
ended_at y None = Err (flaw NoSpace 1)

-- the pattern was opened, up to the slot `end` if there was space
pub record PatternAnswered (y : ℕ) (space : Counts) (text : List ℕ) (t : List Entry) (starts p s o s' o' : List ℕ) (a : Answer) : Type 0 where
  pub end : Option ℕ
  pub opened : PatternOpened 0 space.output text t starts p s o s' o' end
  pub answer : a ≡ ended_at y end

-- what the two may count on, one after the other; under the second name a search for a proof does not look into it
pub record Work (text : List ℕ) (t : List Entry) (defs p ends : List ℕ) (b : Outputs) (space : Counts) : Type 0 where
  pub accepting : Accepting text t defs p
  pub ends-long : slots defs ≤ length ends
  pub ends_enough : slots p ≤ length ends
  pub space-is : space ≡ space_in b

unfoldable pub WorkAsked : List ℕ → List Entry → List ℕ → List ℕ → List ℕ → Outputs → Counts → Type 0
WorkAsked text t defs p ends b space = Work text t defs p ends b space

-- ---- the whole answer

-- where an outcome accepts, the outputs begin with what it writes, which fits
unfoldable pub Begin : Outcome → Outputs → Outputs → Type 0
Begin (accept w) b b' = (b' ≡ begun w b) × Fits (space_in b) (counts_of w)
Begin (refuse r) b b' = Unit {0}

-- the whole answer
pub record Answers (text defs p : List ℕ) (b b' : Outputs) (a : Answer) : Type 0 where
  pub answer : numbered a ≡ answer_of (opening text (trees_of (recs defs)) (tree_of (recs p)) (space_in b))
  pub countable : Countable a
  pub records : Begin (opening text (trees_of (recs defs)) (tree_of (recs p)) (space_in b)) b b'

-- the store got so many records, for the call of the pattern p with the outputs b: 6 at 0, or the pattern can be opened, and its answer is the call's
pub record StoreDone (text : List ℕ) (t : List Entry) (defs p : List ℕ) (b : Outputs) (space : Counts) (ends starts s o : List ℕ) (r : Option ℕ) : Type 0 where
  pub full : r ≡ None → Answers text defs p b (outputs s o) (Err (flaw NoSpace 0))
  pub next : (y : ℕ) → r ≡ Some y → LastAsked text t p ends starts s o y space
  pub after : (y : ℕ) → r ≡ Some y → (s' o' : List ℕ) (a : Answer) → PatternAnswered y space text t starts p s o s' o' a → Answers text defs p b (outputs s' o') a
