-- What the parse functions promise of the state that they return and of the output.
use Rattle.std.specs.Prelude.{ℕ, ◌+◌, ◌*◌, ◌≤◌, ◌<◌, ◌≡◌, List, length, leb, true, false, Result, Ok, Err}
use Rattle.trees.specs.Choice.{pick}
use Rattle.trees.specs.Names.{Nonempty}
use Rattle.trees.specs.Tree.{Trees, count, record_of, records_all}
use Rattle.trees.specs.declared.Head.{Head}
use Rattle.records.specs.Slots.{put, writes}
use Rattle.records.specs.Result.{accepted, refused}
use Rattle.records.specs.declared.Ground.{Ground}
use Rattle.records.specs.Grounds.{number}
use Rattle.tokens.specs.declared.Token.{Token}
use Rattle.tokens.specs.Token.{is_symbol}
use Rattle.tokens.specs.Input.{Input, input, size, peek}
use Rattle.steps.specs.declared.Source.{Source}
use Rattle.steps.specs.declared.State.{State}
use Rattle.steps.specs.declared.Stop.{Stop}
use Rattle.steps.specs.declared.Refusal as struct
use Rattle.steps.specs.Outcome.{Outcome, accept, refuse, Reader, Refusal, refusal, unexpected}

-- what is read, as the definitions speak of it
abbrev pub seen : Source → Input
seen s = input s.tokens.now s.text.now s.end

-- why reading stopped, in document 01's number
abbrev pub told : Stop → Refusal
told d = refusal (number d.why) d.place d.taken

-- the same of a refusal that has its number
abbrev pub told_as : struct.Refusal → Refusal
told_as e = refusal e.code e.place e.taken

abbrev pub state : ℕ → ℕ → ℕ → State
state next count items = record { next = next; count = count; items = items }

-- the number that document 01 gives to what reading comes to, with space for so many records: their count, or 6; or the refusal and its place
unfoldable pub number_of : ℕ → Result State Stop → ℕ
number_of space (Ok q) = pick (leb q.count space) (accepted q.count) (refused 6 0)
number_of space (Err d) = refused (number d.why) d.place

-- the row ts, read up to token j, stands in the output from slot n on, after k trees of its row
pub record Taken (ts : Trees) (j n k : ℕ) (l l' : List ℕ) (q : State) : Type 0 where
  pub ends : q.next ≡ j
  pub counted : q.count ≡ n + length (records_all ts)
  pub rows : q.items ≡ k + count ts
  pub wrote : l' ≡ writes l n (records_all ts)

-- r is what the outcome makes of a state at slot n with k trees in its row, and l' the output that it makes of l
unfoldable pub Met : Outcome → ℕ → ℕ → List ℕ → List ℕ → Result State Stop → Type 0
Met (accept ts j) n k l l' (Ok q) = Taken ts j n k l l' q
Met (accept ts j) n k l l' (Err d) = ⊥
Met (refuse e) n k l l' (Ok q) = ⊥
Met (refuse e) n k l l' (Err d) = told d ≡ e

-- the promise: r is what reading f at the state p gives
pub record Chained (f : Reader) (p : State) (l l' : List ℕ) (r : Result State Stop) : Type 0 where
  pub met : Met (f p.next) p.count p.items l l' r

-- the same of an f that also takes how many trees stand in the row
abbrev pub ChainedAt : (ℕ → Reader) → State → List ℕ → List ℕ → Result State Stop → Type 0
ChainedAt f p l l' r = Chained (f p.items) p l l' r

-- the same of an f that reads no tree and so touches no output
pub record Moved (f : Reader) (p : State) (r : Result State Stop) : Type 0 where
  pub same : (l : List ℕ) → Chained f p l l r

-- the state in which a node's first child is read: its own record's slot is left free
abbrev pub inside : State → State
inside p = state p.next (p.count + 1) 0

-- the node h, begun at p, over the children that q has read
pub record Closed (h : Head) (p q : State) (l l' : List ℕ) (r : State) : Type 0 where
  pub one : r ≡ state q.next q.count (p.items + 1)
  pub wrote : l' ≡ put l p.count (record_of h q.items)

-- the node h without children, of the one token at p
pub record Leafed (h : Head) (p : State) (l l' : List ℕ) (r : State) : Type 0 where
  pub one : r ≡ state (p.next + 1) (p.count + 1) (p.items + 1)
  pub wrote : l' ≡ put l p.count (record_of h 0)

-- what a parse function may count on: the limits of document 01, with one record behind the tokens where the lexer stops, and at most three records for
-- each token, c more allowed
pub record Ready (c : ℕ) (s : Input) (p : State) : Type 0 where
  pub few : size s ≤ 16385
  pub short : length s.text ≤ 65536
  pub here : p.next ≤ size s
  pub room : p.count ≤ 3 * p.next + c
  pub kids : p.items ≤ 3 * p.next + 16
  pub slack : c ≤ 16

-- how far q is from p: at least u tokens on, all of them there, and at most three records for each, with c to spare and d too many at most
pub record Within (u c d : ℕ) (s : Input) (p q : State) : Type 0 where
  pub on : p.next + u ≤ q.next
  pub inside : p.next ≤ size s → q.next ≤ size s
  pub room : q.count + 3 * p.next + c ≤ p.count + 3 * q.next + d
  pub kids : q.items + 3 * p.next + c ≤ p.items + 3 * q.next + d

-- numbers that may be counted on; a row that a record's child count holds
pub record Near (p : State) : Type 0 where
  pub at : p.next < 4294967296
  pub slot : p.count < 4294967296
  pub row : p.items < 65536

-- a symbol stands next, as t; or why not
unfoldable pub SymbolAt : Input → State → Result Token Stop → Type 0
SymbolAt s p (Ok t) = (t ≡ peek s p.next) × (is_symbol t ≡ true)
SymbolAt s p (Err d) = (told d ≡ unexpected (peek s p.next) p.next) × (is_symbol (peek s p.next) ≡ false)

-- what judging a name comes to, where c is its refusal, 0 for none: the range of the name, which is not empty, or the refusal
unfoldable pub Named : ℕ → ℕ → Result ℕ Ground → Type 0
Named c w (Ok n) = (c ≡ 0) × (n ≡ w) × Nonempty n
Named c w (Err g) = (number g ≡ c) × (c ≡ 0 → ⊥)
