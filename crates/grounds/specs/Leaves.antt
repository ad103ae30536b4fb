-- Records without children, and what the records of an Extractor are.
use Rattle.std.specs.Prelude.{◌≡◌, true, List, [], ◌∷◌, ℕ, zero, suc, ◌-◌, ◌≤◌}
use Rattle.trees.specs.declared.Rec.{Rec}
use Rattle.expansion.specs.Nodes.{is_extractor}

-- the first n records have no children
abbrev pub Leaves : ℕ → List Rec → Type 0
Leaves zero rs = Unit {0}
Leaves (suc n) [] = ⊥
Leaves (suc n) (r ∷ rs) = (r.count ≡ 0) × Leaves n rs

-- an Extractor's name and parameters
pub record ExtractorPlaced (r : Rec) (rs : List Rec) : Type 0 where
  pub two : is_extractor r.kind ≡ true → 2 ≤ r.count
  pub names : is_extractor r.kind ≡ true → Leaves (r.count - 1) rs
