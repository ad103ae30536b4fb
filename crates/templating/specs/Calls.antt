-- What a call on two lent lists answers and leaves in the output, for every input: refusals in the order 7, 1, 3, then 4 or 5, then 6.
use Rattle.std.specs.Prelude.{ℕ, ◌/◌, ◌%◌, ◌≡◌, Bool, Result, Ok, Err, List, length, replicate, ltb, eqb}
use Rattle.trees.specs.Choice.{pick}
use Rattle.trees.specs.declared.Rec.{Rec}
use Rattle.records.specs.Slots.{recs}
use Rattle.records.specs.Result.{refused}
use Rattle.forms.specs.Kinds.{name, pattern}
use Rattle.forms.specs.Forms.{is_one, is_many}
use Rattle.records.specs.declared.Ground.{Ground}
use Rattle.records.specs.Grounds as grounds
use Rattle.templates.specs.Answers.{Answer, number_of, output_of, space, template_answer, template_records, substitute_answer, substituted_records}

-- a refusal at place 0; or the answer for the two lists, with the complete list
pub data Call : Type 0 where
  stopped : ℕ → Call
  comes : Answer → List Rec → Call

-- the number that is returned
unfoldable pub number : Call → ℕ
number (stopped code) = refused code 0
number (comes a complete) = number_of a

-- an output of n bytes: the records and then zeros, or all zero
unfoldable pub bytes : ℕ → Call → List ℕ
bytes n (stopped code) = replicate n 0
bytes n (comes a complete) = output_of a complete n

-- the number r, and an output of n bytes that holds l
pub record Ended (c : Call) (n : ℕ) (l : List ℕ) (r : ℕ) : Type 0 where
  pub returns : r ≡ number c
  pub output : l ≡ bytes n c

-- the number of a ground, 0 where there is none
abbrev pub refusal : Result (Unit {0}) Ground → ℕ
refusal (Ok u) = 0
refusal (Err reason) = grounds.number reason

-- 7 where the text or a list is too long, 1 where a list ends inside a record, 0 for neither; by lengths in bytes
unfoldable pub sizes : ℕ → ℕ → ℕ → ℕ
sizes text first second =
    pick (ltb 65536 text) 7
    (pick (ltb 65536 (first / 24)) 7
    (pick (ltb 65536 (second / 24)) 7
    (pick (eqb (first % 24) 0)
    (pick (eqb (second % 24) 0) 0 1)
    1)))

-- what a call comes to, `stop` being its refusals at place 0: the sizes' number; 3 where one of the lists is not of its kind; then c
unfoldable pub lent : {A : Type 0} → (ℕ → A) → ℕ → Bool → Bool → A → A
lent stop n first second c = pick (eqb n 0) (pick first (pick second c (stop 3)) (stop 3)) (stop n)

-- the number of the refusal at place 0 of two lists, 0 where there is none
unfoldable pub fault : ℕ → Bool → Bool → ℕ
fault n first second = lent (λ k. k) n first second 0

-- isle_make_template: one pattern and its parameters
unfoldable pub making : List ℕ → List ℕ → List ℕ → List ℕ → Call
making text patt params out =
    lent stopped (sizes (length text) (length patt) (length params))
    (is_one (length text) pattern (recs patt))
    (is_many (length text) name (recs params))
    (comes (template_answer text (recs patt) (recs params) (space out)) (template_records text (recs patt) (recs params)))

-- isle_substitute: one template and any number of patterns
unfoldable pub substituting : List ℕ → List ℕ → List ℕ → List ℕ → Call
substituting text template patterns out =
    lent stopped (sizes (length text) (length template) (length patterns))
    (is_one (length text) pattern (recs template))
    (is_many (length text) pattern (recs patterns))
    (comes (substitute_answer (recs template) (recs patterns) (space out)) (substituted_records (recs template) (recs patterns)))
