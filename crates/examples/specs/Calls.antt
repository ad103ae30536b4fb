-- Calls of the four entries, what they come to by the definitions that the clauses `answer` of the entries cite, and what the documents say of them.
use Rattle.std.specs.Prelude.{ℕ, ◌-◌, ◌*◌, List, [], ◌∷◌, ◌++◌, length, replicate}
use Rattle.records.specs.Slots.{slots}
use Rattle.records.specs.Result.{accepted, refused}
use Rattle.tokens.specs.Input.{input}
use Rattle.grounds.specs.Opening.{Outcome}
use Rattle.parser.specs.Reading as reader
use Rattle.templating.specs.Calls as lists
use Rattle.opening.specs.Answers.{Outputs, outputs}
use Rattle.openings.specs.Calls as opens

-- the bytes lent to be read; of a store or an output, for how many records there is space
pub data Call : Type 0 where
  isle_read : (tokens text : List ℕ) (end out : ℕ) → Call
  isle_make_template : (text pattern params : List ℕ) (out : ℕ) → Call
  isle_substitute : (text template patterns : List ℕ) (out : ℕ) → Call
  isle_open : (text defs pattern : List ℕ) (store out : ℕ) → Call

-- the number that is returned, and the bytes left in the store, which isle_open alone has, and in the output
pub record Answer : Type 0 where
  pub number : ℕ
  pub store : List ℕ
  pub output : List ℕ

abbrev pub answer : ℕ → List ℕ → List ℕ → Answer
answer r s o = record { number = r; store = s; output = o }

-- space for n records as it is lent, with no zeros in it
abbrev pub lent : ℕ → List ℕ
lent n = replicate (n * 24) 255

abbrev pub of_reading : reader.Reading → List ℕ → Answer
of_reading g out = answer (reader.number g) [] (reader.bytes (length out) g)

abbrev pub of_call : lists.Call → List ℕ → Answer
of_call c out = answer (lists.number c) [] (lists.bytes (length out) c)

-- by what the outputs then hold
abbrev pub of_outputs : ℕ → Outputs → Answer
of_outputs r b = answer r b.store b.output

abbrev pub of_outcome : Outcome → Outputs → Answer
of_outcome c b = of_outputs (opens.number c) (opens.filled b c)

-- the store and the output as they are lent
abbrev pub lent_both : ℕ → ℕ → Outputs
lent_both store out = outputs (lent store) (lent out)

unfoldable pub comes_to : Call → Answer
comes_to (isle_read tokens text end out) = of_reading (reader.reading (input tokens text end) (slots (lent out))) (lent out)
comes_to (isle_make_template text pattern params out) = of_call (lists.making text pattern params (lent out)) (lent out)
comes_to (isle_substitute text template patterns out) = of_call (lists.substituting text template patterns (lent out)) (lent out)
comes_to (isle_open text defs pattern store out) = of_outcome (opens.opening_of text defs pattern (lent_both store out)) (lent_both store out)

-- ---- what document 01 says of a call

infix 30 ◌at◌
pub data Said : Type 0 where
  -- a refusal and its place
  ◌at◌ : (refusal place : ℕ) → Said
  -- the count, the records in the store and those in the output
  accepts : (count : ℕ) (store output : List ℕ) → Said

-- 'an output holds its records, then zeros to its end ..; after a refusal it is all zero'
unfoldable pub filled : ℕ → List ℕ → List ℕ
filled n l = l ++ replicate (n * 24 - length l) 0

-- as an answer, with space for s records in the store and for o in the output
unfoldable pub meant : Said → ℕ → ℕ → Answer
meant (refusal at place) s o = answer (refused refusal place) (filled s []) (filled o [])
meant (accepts count store output) s o = answer (accepted count) (filled s store) (filled o output)

unfoldable pub said : Call → Said → Answer
said (isle_read tokens text end out) w = meant w 0 out
said (isle_make_template text pattern params out) w = meant w 0 out
said (isle_substitute text template patterns out) w = meant w 0 out
said (isle_open text defs pattern store out) w = meant w store out

infix 20 ◌gives◌
pub data Case : Type 0 where
  ◌gives◌ : Call → Said → Case

unfoldable pub outcomes : List Case → List Answer
outcomes [] = []
outcomes ((call gives w) ∷ cs) = comes_to call ∷ outcomes cs

unfoldable pub expected : List Case → List Answer
expected [] = []
expected ((call gives w) ∷ cs) = said call w ∷ expected cs
