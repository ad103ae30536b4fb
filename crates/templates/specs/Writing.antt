-- Appending records to an output with limited space: all of them, or none where they do not fit.
use Rattle.std.specs.Prelude.{ℕ, ◌+◌, ◌-◌, ◌<◌, ◌≤◌, ◌≡◌, Result, Ok, Err, List, length, take, drop}
use Rattle.trees.specs.declared.Rec.{Rec}
use Rattle.records.specs.Slots.{recs, writes}
use Rattle.templates.specs.declared.Refused.{Refused}
use Rattle.templates.specs.declared.Refused.TheVariants.{NoSpace}
use Rattle.templates.specs.declared.output.Output.{Output}
use Rattle.templates.specs.Answers.{space}

-- an output in the bytes a into which nothing was written
pub record Empty (a : List ℕ) (o : Output) : Type 0 where
  pub bytes : o.bytes.now ≡ a
  pub written : o.written ≡ 0
  pub room : o.room ≡ space a

-- the output a with the list l after what was written is b
pub record Appended (a : Output) (l : List Rec) (b : Output) : Type 0 where
  pub written : b.written ≡ a.written + length l
  pub within : b.written ≤ a.room
  pub bytes : b.bytes.now ≡ writes a.bytes.now a.written l
  pub room : b.room ≡ a.room
  pub same_reference : b.bytes.ghost_name ≡ a.bytes.ghost_name

-- the list l is appended to the output a, which is b then; or there is no space for all of it
pub data Wrote (a : Output) (l : List Rec) (b : Output) : Result (Unit {0}) Refused → Type 0 where
  all : Appended a l b → Wrote a l b (Ok tt)
  full : a.room < a.written + length l → Wrote a l b (Err NoSpace)

-- the output b is in the bytes that a was lent, of the same length, with the same room
pub record SameLent (a b : Output) : Type 0 where
  pub same_reference : b.bytes.ghost_name ≡ a.bytes.ghost_name
  pub size : length b.bytes.now ≡ length a.bytes.now
  pub room : b.room ≡ a.room

-- whatever appends what is left appends the whole
pub record Reaches (a₀ : Output) (whole : List Rec) (a : Output) (left : List Rec) : Type 0 where
  pub on : (b : Output) (y : Result (Unit {0}) Refused) → Wrote a left b y → Wrote a₀ whole b y

-- the records from slot i up to slot j
unfoldable pub slice : List ℕ → ℕ → ℕ → List Rec
slice l i j = take (j - i) (drop i (recs l))
