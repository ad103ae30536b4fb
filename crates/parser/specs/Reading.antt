-- What reading answers and leaves in the output, for every input: refusals in the order 7, 1, 2, the first met from the left, 6.
use Rattle.std.specs.Prelude.{ℕ, ◌%◌, List, length, replicate, ltb, leb, eqb}
use Rattle.trees.specs.Choice.{pick, choose}
use Rattle.trees.specs.Tree.{Trees, records_all}
use Rattle.records.specs.Slots.{writes}
use Rattle.records.specs.Result.{accepted, refused}
use Rattle.tokens.specs.Input.{Input, size}
use Rattle.tokens.specs.Lent.{first_bad}
use Rattle.steps.specs.Outcome.{Outcome, accept, refuse}
use Rattle.parser.specs.Defs.{parse_defs}

-- the definitions, or a refusal and its place
pub data Reading : Type 0 where
  done : Trees → Reading
  stopped : ℕ → ℕ → Reading

-- 6 where the records are more than the space
unfoldable pub fitted : ℕ → Outcome → Reading
fitted space (accept ts j) = pick (leb (length (records_all ts)) space) (done ts) (stopped 6 0)
fitted space (refuse e) = stopped e.code e.place

-- good tokens are parsed; b is the index of the first bad one
unfoldable pub judged : Input → ℕ → ℕ → Reading
judged s space b = choose (ltb b (size s)) (λ _. stopped 2 b) (λ _. fitted space (parse_defs s 0))

unfoldable pub reading : Input → ℕ → Reading
reading s space =
    choose (ltb 16384 (size s)) (λ _. stopped 7 0)
    (λ _. choose (ltb 65536 (length s.text)) (λ _. stopped 7 0)
    (λ _. choose (eqb (length s.tokens % 24) 0)
    (λ _. judged s space (first_bad s.tokens s.text s.end))
    (λ _. stopped 1 0)))

-- the number that is returned
unfoldable pub number : Reading → ℕ
number (done ts) = accepted (length (records_all ts))
number (stopped code place) = refused code place

-- an output of n bytes: the records and then zeros, or all zero
unfoldable pub bytes : ℕ → Reading → List ℕ
bytes n (done ts) = writes (replicate n 0) 0 (records_all ts)
bytes n (stopped code place) = replicate n 0
