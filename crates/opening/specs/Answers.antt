-- What opening answers, as a number and as bytes of its outputs.
use Rattle.std.specs.Prelude.{Result, Ok, Err, List, ℕ, ◌<◌, min}
use Rattle.records.specs.Slots.{slots, writes}
use Rattle.records.specs.Result.{accepted, refused}
use Rattle.records.specs.Grounds.{number}
use Rattle.forms.specs.Kinds.{pattern}
use Rattle.grounds.specs.declared.Counts.{Counts}
use Rattle.grounds.specs.Stages.{Refusal, refusal}
use Rattle.grounds.specs.Opening.{Written, counts, counts_of, Fits, Outcome, accept, refuse}
use Rattle.judging.specs.declared.Flaw.{Flaw}

-- ---- the number that document 01 gives to each answer: the opened pattern's count alone, or the refusal and its place

-- how many records each output got, or why not
abbrev pub Answer : Type 0
Answer = Result Counts Flaw

-- the same with the number of the ground
abbrev pub Answered : Type 0
Answered = Result Counts Refusal

abbrev pub numbered : Answer → Answered
numbered (Ok n) = Ok n
numbered (Err e) = Err (refusal (number e.reason) e.place)

unfoldable pub number_of : Answered → ℕ
number_of (Ok n) = accepted n.output
number_of (Err r) = refused r.number r.place

-- counts and a place that the number has space for
unfoldable pub Countable : Answer → Type 0
Countable (Ok n) = Fits (counts 65536 65536) n
Countable (Err e) = e.place < 131072

-- the answer that an outcome is
unfoldable pub answer_of : Outcome → Answered
answer_of (accept w) = Ok (counts_of w)
answer_of (refuse r) = Err r

-- ---- the outputs, as bytes

pub record Outputs : Type 0 where
  pub store : List ℕ
  pub output : List ℕ

abbrev pub outputs : List ℕ → List ℕ → Outputs
outputs store output = record { store = store; output = output }

-- 'Lists hold at most 65,536 records, so space is the whole records lent or that, the smaller'
unfoldable pub space_of : List ℕ → ℕ
space_of l = min (slots l) 65536

unfoldable pub space_in : Outputs → Counts
space_in b = counts (space_of b.store) (space_of b.output)

-- with what is written at their beginning
unfoldable pub begun : Written → Outputs → Outputs
begun w b = outputs (writes b.store 0 w.templates) (writes b.output 0 w.pattern)

-- the sort of a pattern
abbrev pub pattern_sort : ℕ
pattern_sort = pattern
