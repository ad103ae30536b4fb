-- What the parse functions promise of the parser that they leave.
use Rattle.std.specs.Prelude.{ℕ, ◌≡◌, Result, Ok, Err}
use Rattle.trees.specs.declared.Head.{Head}
use Rattle.tokens.specs.Input.{Input}
use Rattle.steps.specs.declared.Parser.{Parser}
use Rattle.steps.specs.declared.State.{State}
use Rattle.steps.specs.declared.Stop.{Stop}
use Rattle.steps.specs.declared.Refusal.{Refusal}
use Rattle.steps.specs.Outcome.{Reader, refuse}
use Rattle.steps.specs.Met.{seen, told_as, Chained, Closed, Leafed, Ready, Within, inside}

-- what a parser reads, as the definitions speak of it
abbrev pub read_by : Parser → Input
read_by p = seen p.source

-- what reading comes to: the state that it leaves, or why it stopped
unfoldable pub came_to : Result (Unit {0}) Stop → State → Result State Stop
came_to (Ok u) q = Ok q
came_to (Err d) q = Err d

-- a parser goes on with the same tokens and the same output
pub record Same (p p' : Parser) : Type 0 where
  pub source : p'.source ≡ p.source
  pub loan : p'.out.ghost_name ≡ p.out.ghost_name

-- the promise: what p' holds, and r, is what reading f from p on gives
pub record Read (f : Input → Reader) (p p' : Parser) (r : Result (Unit {0}) Stop) : Type 0 where
  pub read : Chained (f (read_by p)) p.state p.out.now p'.out.now (came_to r p'.state)
  pub same : Same p p'

-- the same where the refusal is told in document 01's number
unfoldable pub ReadAs : (Input → Reader) → Parser → Parser → Result (Unit {0}) Refusal → Type 0
ReadAs f p p' (Ok u) = Read f p p' (Ok u)
ReadAs f p p' (Err e) = (f (read_by p) p.state.next ≡ refuse (told_as e)) × Same p p'

abbrev pub Passed : (Input → Reader) → Parser → Parser → Type 0
Passed f p p' = Read f p p' (Ok tt)

-- the same of an f that also takes how many trees stand in the row
abbrev pub ReadAt : (Input → ℕ → Reader) → Parser → Parser → Result (Unit {0}) Stop → Type 0
ReadAt f p p' r = Read (λ s. f s p.state.items) p p' r

-- a node is begun
pub record Begun (p p' : Parser) : Type 0 where
  pub inside : p'.state ≡ inside p.state
  pub unwritten : p'.out.now ≡ p.out.now
  pub same : Same p p'

-- the node h, begun at the state n, is closed over the children read since
pub record ClosedBy (h : Head) (n : State) (p p' : Parser) : Type 0 where
  pub closed : Closed h n p.state p.out.now p'.out.now p'.state
  pub same : Same p p'

-- the node h without children, of the one next token
pub record LeafedBy (h : Head) (p p' : Parser) : Type 0 where
  pub leafed : Leafed h p.state p.out.now p'.out.now p'.state
  pub same : Same p p'

-- what a parse function may count on, with c records more allowed
abbrev pub Begins : ℕ → Parser → Type 0
Begins c p = Ready c (read_by p) p.state

-- how far p' is from p
abbrev pub Went : ℕ → ℕ → ℕ → Parser → Parser → Type 0
Went u c d p p' = Within u c d (read_by p) p.state p'.state
