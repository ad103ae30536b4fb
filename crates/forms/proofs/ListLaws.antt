-- The records from an index on. Assumes nothing.
use Prim.Native.Nat.{ℕ, ◌+◌, ◌-◌, ◌<◌, ◌≤◌}
use mathlib.Core.Path.{◌≡◌}
use mathlib.Core.List.{List, [], ◌∷◌}
use lib.ListN.{length}
use Rattle.records.specs.Slots.{slots, rec_at, recs}
use Rattle.records.proofs.Reading.{recs-more, recs-none, recs-all, length-recs_from}
use Rattle.forms.specs.Lists.{left}

pub left-more : (l : List ℕ) (i : ℕ) → i < slots l → left l i ≡ rec_at l i ∷ left l (i + 1)
unfolding left
left-more l i h = recs-more l i h

pub left-none : (l : List ℕ) (i : ℕ) → slots l ≤ i → left l i ≡ []
unfolding left
left-none l i h = recs-none l i h

pub left-all : (l : List ℕ) → left l 0 ≡ recs l
unfolding left
left-all l = recs-all l

pub length-left : (l : List ℕ) (i : ℕ) → length (left l i) ≡ slots l - i
unfolding left
length-left l i = length-recs_from l i (slots l - i)
