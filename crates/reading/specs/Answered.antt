-- What an entry answers: the returned number and every byte of the output.
use Rattle.std.specs.Prelude.{ℕ, ◌*◌, ◌-◌, ◌<◌, ◌≡◌, List, ◌++◌, length, take, replicate, leb, Result, Ok, Err}
use Rattle.trees.specs.Choice.{pick}
use Rattle.records.specs.Slots.{slots}
use Rattle.steps.specs.declared.State.{State}
use Rattle.steps.specs.declared.Stop.{Stop}
use Rattle.steps.specs.declared.Refusal.{Refusal}
use Rattle.steps.specs.Met.{number_of}
use Rattle.parser.specs.Reading.{Reading, stopped, number, bytes}

-- the number r, and an output of n bytes that holds l
pub record Answered (g : Reading) (n : ℕ) (l : List ℕ) (r : ℕ) : Type 0 where
  pub returns : r ≡ number g
  pub output : l ≡ bytes n g

-- what the end of reading leaves of an output: its records with zeros after them where they fit, else all zero
unfoldable pub cleared : Result State Stop → List ℕ → List ℕ
cleared (Ok q) l = pick (leb q.count (slots l)) (take (q.count * 24) l ++ replicate (length l - q.count * 24) 0) (replicate (length l) 0)
cleared (Err d) l = replicate (length l) 0

-- the number returned for it, and the output left
pub record Finished (p : Result State Stop) (l l' : List ℕ) (r : ℕ) : Type 0 where
  pub returns : r ≡ number_of (slots l) p
  pub output : l' ≡ cleared p l

-- the same where the refusal is told in document 01's number
unfoldable pub FinishedAs : Result State Refusal → List ℕ → List ℕ → ℕ → Type 0
FinishedAs (Ok q) l l' r = Finished (Ok q) l l' r
FinishedAs (Err e) l l' r = Answered (stopped e.code e.place) (length l) l' r

-- a count that the number has space for
unfoldable pub Countable : Result State Stop → Type 0
Countable (Ok q) = q.count < 16777216
Countable (Err d) = Unit {0}

unfoldable pub CountableAs : Result State Refusal → Type 0
CountableAs (Ok q) = Countable (Ok q)
CountableAs (Err e) = Unit {0}
