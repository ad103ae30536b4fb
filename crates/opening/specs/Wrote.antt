-- Appending records to one of two outputs, the store or the output, with space for so many: all of them, or none where they do not fit.
use Rattle.std.specs.Prelude.{◌≡◌, Option, Some, None, List, ◌++◌, ℕ, ◌+◌, ◌<◌, ◌≤◌, length}
use Rattle.trees.specs.declared.Rec.{Rec}
use Rattle.records.specs.Slots.{slots, recs_from, writes}
use Rattle.opening.specs.declared.Side.{Side}
use Rattle.opening.specs.declared.Side.TheVariants.{Store, Output}

-- the one that is written to; and the other one
abbrev pub target : Side → List ℕ → List ℕ → List ℕ
target Store store out = store
target Output store out = out

abbrev pub other : Side → List ℕ → List ℕ → List ℕ
other Store store out = out
other Output store out = store

-- what is asked where a record is appended after n of them
pub record Appendable (to : Side) (space : ℕ) (s o : List ℕ) (n : ℕ) : Type 0 where
  pub fits : n ≤ space
  pub there : space ≤ slots (target to s o)
  pub most : space ≤ 65536

-- after n records the list l is appended: how many records are then there, or none where there is no space for all
pub data Wrote (to : Side) (space : ℕ) (s o : List ℕ) (n : ℕ) (l : List Rec) (s' o' : List ℕ) (r : Option ℕ) : Type 0 where
  all : length s' ≡ length s → length o' ≡ length o → r ≡ Some (n + length l) → n + length l ≤ space → target to s' o' ≡ writes (target to s o) n l
      → recs_from (target to s' o') 0 (n + length l) ≡ recs_from (target to s o) 0 n ++ l → other to s' o' ≡ other to s o → Wrote to space s o n l s' o' r
  full : length s' ≡ length s → length o' ≡ length o → r ≡ None → space < n + length l → Wrote to space s o n l s' o' r
