-- A record of the source that is no call, as it is written: itself, or a MacroArg where it stands for a parameter.
use Rattle.std.specs.Prelude.{◌≡◌, Option as Maybe, Some, None, List, ◌∷◌, ℕ, suc, ◌+◌, ◌<◌, ◌≤◌, eqb, length, drop}
use Rattle.std.proofs.Math.Option.{Option, none, some}
use Rattle.trees.specs.Choice.{pick}
use Rattle.trees.specs.Tree.{Tree, Trees, count, firsts, trees_of}
use Rattle.records.specs.Slots.{slots, rec_at, recs}
use Rattle.expansion.specs.Expansion.{Named}
use Rattle.expansion.specs.Flat.{span, Placed, All, called_at, opened_at}
use Rattle.grounds.specs.Leaves.{Leaves}
use Rattle.judging.specs.declared.table.Entry.{Entry}
use Rattle.judging.specs.Table.{looked}
use Rattle.opening.specs.Ends.{EndsFrom}
use Rattle.opening.specs.declared.made.Made.{Made}

-- the pc parameters from the index pa on
abbrev pub params_at : List ℕ → ℕ → ℕ → Trees
params_at src pa pc = firsts pc (trees_of (drop pa (recs src)))

-- the source has pc parameters from the index pa on
pub record Params (src : List ℕ) (pa pc : ℕ) : Type 0 where
  pub leaves : Leaves pc (drop pa (recs src))
  pub params_in : pa + pc ≤ slots src

-- the source has a record k
pub record Located (src : List ℕ) (k : ℕ) : Type 0 where
  pub placed : All Placed (recs src)
  pub inside : k < slots src

-- what is asked where the record k is made
pub record Makeable (src ends : List ℕ) (pa pc k : ℕ) : Type 0 where
  pub params : Params src pa pc
  pub located : Located src k
  pub ended : EndsFrom (recs src) ends 0
  pub ends-long : slots src ≤ length ends

-- r is the index that was looked for, which is below m, or none
pub record Sought (m : ℕ) (o : Option ℕ) (r : Maybe ℕ) : Type 0 where
  pub below : (j : ℕ) → r ≡ Some j → j < m
  pub found : (j : ℕ) → r ≡ Some j → o ≡ some j
  pub missing : r ≡ None → o ≡ none

pub record MadeAt (text src : List ℕ) (pa pc k : ℕ) (m : Made) : Type 0 where
  pub opens : (S : List (Named Tree)) (n : ℕ) → called_at text S (rec_at src k) (drop (k + 1) (recs src)) ≡ none
      → opened_at text S (params_at src pa pc) (recs src) k (suc n) ≡ m.rec ∷ opened_at text S (params_at src pa pc) (recs src) m.next (m.rec.count + n)
  pub forward : k < m.next
  pub there : (n : ℕ) → suc n ≤ count (trees_of (drop k (recs src))) → m.rec.count + n ≤ count (trees_of (drop m.next (recs src)))
  pub ends : (n : ℕ) → m.next + span (drop m.next (recs src)) (m.rec.count + n) ≡ k + span (drop k (recs src)) (suc n)

-- the number of the extractor that the record k calls
unfoldable pub call_number : List ℕ → List Entry → List ℕ → ℕ → Maybe ℕ
call_number text t src k = pick (eqb (rec_at src k).kind 35) (looked text t (rec_at src (k + 1)).word1) None
