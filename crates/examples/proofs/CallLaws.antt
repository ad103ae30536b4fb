-- What the clause `answer` of an entry fixes is what the call comes to. Assumes nothing.
use Prim.Native.Nat.{ℕ}
use mathlib.Core.Path.{◌≡◌, ap₂}
use mathlib.Core.List.{List, []}
use lib.ListN.{length}
use Rattle.records.specs.Slots.{slots}
use Rattle.tokens.specs.Input.{input}
use Rattle.parser.specs.Reading.{reading}
use Rattle.reading.specs.Answered.{Answered}
use Rattle.templating.specs.Calls.{Ended, making, substituting}
use Rattle.opening.specs.Answers.{outputs}
use Rattle.openings.specs.Calls.{Left, opening_of}
use Rattle.examples.specs.Calls.{isle_read, isle_make_template, isle_substitute, isle_open, answer, lent, lent_both, of_outputs, comes_to}

pub read_fixed : (tokens text l : List ℕ) (end n r : ℕ) → Answered (reading (input tokens text end) (slots (lent n))) (length (lent n)) l r
    → answer r [] l ≡ comes_to (isle_read tokens text end n)
unfolding comes_to
read_fixed tokens text l end n r a = rw (a.returns, a.output)

pub made_fixed : (text patt params l : List ℕ) (n r : ℕ) → Ended (making text patt params (lent n)) (length (lent n)) l r
    → answer r [] l ≡ comes_to (isle_make_template text patt params n)
unfolding comes_to
made_fixed text patt params l n r a = rw (a.returns, a.output)

pub substituted_fixed : (text template patterns l : List ℕ) (n r : ℕ) → Ended (substituting text template patterns (lent n)) (length (lent n)) l r
    → answer r [] l ≡ comes_to (isle_substitute text template patterns n)
unfolding comes_to
substituted_fixed text template patterns l n r a = rw (a.returns, a.output)

pub opened_fixed : (text defs patt s l : List ℕ) (n m r : ℕ) → Left (opening_of text defs patt (lent_both n m)) (lent_both n m) (outputs s l) r
    → answer r s l ≡ comes_to (isle_open text defs patt n m)
unfolding comes_to
opened_fixed text defs patt s l n m r a = ap₂ of_outputs a.returns a.holds
