-- Scans of a list of records: the records from an index on, passing trees, the first MacroArg.
use Rattle.std.specs.Prelude.{ℕ, zero, suc, ◌+◌, ◌-◌, ◌<◌, Bool, true, false, Option, IfSome, IfNone, List, [], ◌∷◌, ◌++◌, eqb}
use Rattle.trees.specs.declared.Rec.{Rec}
use Rattle.trees.specs.Choice.{pick}
use Rattle.trees.specs.Tree.{Tree, Trees, node, ∅, ◌▸◌}
use Rattle.records.specs.Slots.{slots, rec_at, recs_from}

-- the records of a lent list from the index i on
unfoldable pub left : List ℕ → ℕ → List Rec
left l i = recs_from l i (slots l - i)

-- how many records the first n trees of a list have
unfoldable pub skip : ℕ → List Rec → ℕ
skip n [] = 0
skip zero (r ∷ rs) = 0
skip (suc n) (r ∷ rs) = suc (skip (n + r.count) rs)

-- the index of the first v, or the length where there is none
unfoldable pub first_is : ℕ → List ℕ → ℕ
first_is v [] = 0
first_is v (x ∷ xs) = pick (eqb x v) 0 (suc (first_is v xs))

-- the kinds of a tree's nodes, in the order of their records
unfoldable mutual
  pub kinds : Tree → List ℕ
  kinds (node h ts) = h.kind ∷ kinds_all ts

  pub kinds_all : Trees → List ℕ
  kinds_all ∅ = []
  kinds_all (t ▸ ts) = kinds t ++ kinds_all ts

unfoldable pub kinds_of : List Rec → List ℕ
kinds_of [] = []
kinds_of (r ∷ rs) = r.kind ∷ kinds_of rs

abbrev pub macro_arg : ℕ
macro_arg = 38

-- the index of the first MacroArg, or the length
abbrev pub first_macro_arg : List Rec → ℕ
first_macro_arg rs = first_is macro_arg (kinds_of rs)

-- the index of the first record that passes a test, or how many records there are
unfoldable pub first_of : (Rec → Bool) → List Rec → ℕ
first_of test [] = 0
first_of test (r ∷ rs) = pick (test r) 0 (suc (first_of test rs))

-- o is the index of the first record in the bytes l at which a test may answer true, and at those before it false; it is none where the test
-- may answer false at all
pub record FirstToPass (answers : Rec → Bool → Type 0) (l : List ℕ) (o : Option ℕ) : Type 0 where
  pub inside : IfSome o (λ i. i < slots l)
  pub here : IfSome o (λ i. answers (rec_at l i) true)
  pub before : IfSome o (λ i. (j : ℕ) → j < i → answers (rec_at l j) false)
  pub nowhere : IfNone o ((j : ℕ) → j < slots l → answers (rec_at l j) false)
